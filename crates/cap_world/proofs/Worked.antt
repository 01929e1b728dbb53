-- The two small runs, computed.
use Rattle.std.proofs.Common.{[], ◌∷◌, refl, lit<, lit≤}
use Rattle.cap_entries.specs.SetUps.{SetUpsMatch}
use Rattle.cap_world.specs.Worked.{small_host, small_terminal, first_sale, interrupted_sale, settled_sale, FirstSaleIsARun, InterruptedSaleIsARun, SettledSaleIsARun}

matching : SetUpsMatch small_host (small_terminal ∷ [])
matching = record { names = refl; hosts = (refl, tt); rules = (refl, tt); host_rule = refl }

pub first_sale_run : FirstSaleIsARun
unfolding first_sale
first_sale_run sent answered at_five at_six = record {
  match = matching;
  last = _;
  run = (
    _,
    (_, _, refl, (_, _, refl, ((lit< tt, refl), refl), refl), refl),
    (
      _,
      (_, _, refl, (_, _, refl, ((refl, lit≤ tt, refl), refl), refl), refl),
      (
        _,
        (_, _, refl, (_, _, refl, (_, (_, refl, lit≤ tt, (_, at_five, refl)), refl, refl), refl), refl),
        (
          _,
          (_, _, _, refl, (_, _, refl, refl, refl, refl, (_, at_six, refl)), refl),
          (_, (_, _, refl, (_, _, refl, (_, _, refl, refl, refl, refl), refl), refl), refl),
        ),
      ),
    ),
  );
  counted = refl;
}

pub interrupted_sale_run : InterruptedSaleIsARun
unfolding interrupted_sale
interrupted_sale_run = record {
  match = matching;
  last = _;
  run = (
    _,
    (_, _, refl, (_, _, refl, ((lit< tt, refl), refl), refl), refl),
    (
      _,
      (_, _, refl, (_, _, refl, ((refl, lit≤ tt, refl), refl), refl), refl),
      (
        _,
        (_, _, refl, refl, refl),
        (_, (_, _, refl, (_, _, refl, ((refl, refl), refl), refl), refl), refl),
      ),
    ),
  );
  counted = refl;
}

pub settled_sale_run : SettledSaleIsARun
unfolding settled_sale
settled_sale_run sent answered at_five at_six = record {
  match = matching;
  last = _;
  run = (
    _,
    (_, _, refl, (_, _, refl, ((lit< tt, refl), refl), refl), refl),
    (
      _,
      (_, _, refl, (_, _, refl, ((refl, lit≤ tt, refl), refl), refl), refl),
      (
        _,
        (_, _, refl, (_, _, refl, (_, (_, refl, lit≤ tt, (_, at_five, refl)), refl, refl), refl), refl),
        (
          _,
          (_, _, _, refl, (_, _, refl, refl, refl, refl, (_, at_six, refl)), refl),
          (
            _,
            (_, _, refl, (_, _, refl, ((refl, refl), refl), refl), refl),
            (
              _,
              (_, _, _, refl, (_, _, refl, refl, refl, refl, (_, at_six, refl)), refl),
              (
                _,
                refl,
                (
                  _,
                  (_, _, refl, refl, refl),
                  (
                    _,
                    (_, _, refl, (_, _, refl, (_, (_, refl, lit≤ tt, (_, at_five, refl)), refl, refl), refl), refl),
                    (
                      _,
                      (_, _, _, refl, (_, _, refl, refl, refl, refl, (_, at_six, refl)), refl),
                      (_, (_, _, refl, (_, _, refl, (_, _, refl, refl, refl, refl), refl), refl), refl),
                    ),
                  ),
                ),
              ),
            ),
          ),
        ),
      ),
    ),
  );
  counted = refl;
}
