-- What is found in the index of a log.
use Rattle.std.proofs.Common.{◌≡◌, ℕ, zero, suc, ◌-◌, ◌<◌, ◌≤◌, true, false, ◌&&◌, List, [], ◌∷◌, length, Option, Some, None, refl, sym, ◌∙◌, ap, subst, ⊎_elim, append-nil, arith, le-leb, leb-true}
use Rattle.std.specs.Prelude.{nat_le, slice_get, MatchOption, ◌==◌}
use Rattle.std.specs.List.{list_any}
use Rattle.std.specs.Ordering.{nat_cmp}
use Rattle.std.specs.BTreeMap.{get}
use Rattle.std.proofs.lemmas.Bool.{cond-true, cond-false, cases_lt, false_from_ne_true, and_from, and_parts}
use Rattle.std.proofs.lemmas.Option.{none-some, same_Some, slice_get_within, get_or_from_slice_get}
use Rattle.cap_base.specs.declared.item.Totals.{Totals}
use Rattle.cap_base.specs.declared.item.Item.{Item}
use Rattle.cap_base.specs.Item.{is_close, is_sale_of}
use Rattle.cap_base.specs.Captured.{captured, period_totals, totals}
use Rattle.cap_base.specs.Fits.{all_fit}
use Rattle.cap_entries.specs.declared.host.HostEntry.{HostEntry}
use Rattle.cap_entries.specs.declared.host.HostEntry.TheVariants.{Took}
use Rattle.cap_entries.specs.Log.{log}
use Rattle.cap_host_index.specs.Places.{places_of, amount_in}
use Rattle.cap_host_index.specs.PlacesLaws.{length-places, place_there}
use Rattle.cap_host_index.specs.CapturedLaws.{captured_at, length-captured_places, captured_place_at, captured_place_none}
use Rattle.cap_host_index.specs.Periods.{Periods, nothing}
use Rattle.cap_host_index.specs.Noted.{IsIndex, HoldsItem, HoldsSale, HoldsCaptured}
use Rattle.cap_host_index.specs.declared.index.LogIndex.{LogIndex}

some_at : {X : Type 0} (xs : List X) (k : ℕ) → k < length xs → (x : X) × (slice_get xs k ≡ Some x)
some_at [] k h = absurd (omega (arith, h))
some_at (x ∷ xs) zero h = (x, refl)
some_at (x ∷ xs) (suc k) h = some_at xs k (omega (arith, h))

none_past : {X : Type 0} (xs : List X) (k : ℕ) → slice_get xs k ≡ None → length xs ≤ k
none_past xs k e = ⊎_elim (λ within. absurd (none-some (some_at xs k within).0 (sym e ∙ (some_at xs k within).1))) (λ past. past) (cases_lt k (length xs))

no_periods : Periods [] nothing []
no_periods =
    record {
      closes = refl;
      close = λ q. sym (false_from_ne_true (nat_le 1 q && nat_le q 0) (λ yes. let parts = and_parts (nat_le 1 q) (nat_le q 0) yes in let no' : ⊥ = omega (arith, leb-true 1 q parts.0, leb-true q 0 parts.1) in no'));
      running_is = refl;
      closed_are = λ p d low high. absurd (omega (arith, low, high));
    }

module _ (entries : List HostEntry) (terminal : ℕ) (x : LogIndex) (index : IsIndex entries terminal x) where
  fit : all_fit [] (log entries terminal) ≡ true
  fit = sym (ap (all_fit []) (append-nil (log entries terminal))) ∙ index.tallies.fit

  as_many : length x.places.items ≡ length (log entries terminal)
  as_many = ap length index.places ∙ length-places 0 entries terminal

  pub found_item : (m : ℕ) (o : Option ℕ) → o ≡ slice_get x.places.items m → MatchOption o (length (log entries terminal) ≤ m) (λ p. HoldsItem entries terminal m p)
  found_item m None e = omega (arith, none_past x.places.items m (sym e), as_many)
  found_item m (Some p) e =
      let there : slice_get (places_of entries terminal) m ≡ Some p = sym (e ∙ ap (λ (l : List ℕ). slice_get l m) index.places) in
      let item = some_at (log entries terminal) m (omega (arith, slice_get_within x.places.items m p (sym e), as_many)) in
      record { item = item.0; in_log = item.1; in_entries = place_there entries terminal m p item.0 there item.1 }

  -- an item of the log stands in an entry
  in_entry : (m : ℕ) (item : Item) → slice_get (log entries terminal) m ≡ Some item → (o : Option ℕ) → MatchOption o (length (log entries terminal) ≤ m) (λ p. HoldsItem entries terminal m p) → (P : Option ℕ → Type 0) → ((p : ℕ) → (h : HoldsItem entries terminal m p) → h.item ≡ item → P (Some p)) → P o
  in_entry m item at None past P k = absurd (omega (arith, past, slice_get_within (log entries terminal) m item at))
  in_entry m item at (Some p) holds P k = k p holds (same_Some holds.item item (sym holds.in_log ∙ at))

  pub no_sale_found : (n : ℕ) → None ≡ get nat_cmp x.captured n → (a : ℕ) → list_any (is_sale_of n a) (captured (log entries terminal)) ≡ false
  no_sale_found n e a = captured_place_none (log entries terminal) n a (sym (e ∙ index.tallies.captured n))

  pub sale_found : (n place : ℕ) → Some place ≡ get nat_cmp x.captured n → (o : Option ℕ) → MatchOption o (length (log entries terminal) ≤ place) (λ p. HoldsItem entries terminal place p)
      → MatchOption o ((a : ℕ) → list_any (is_sale_of n a) (captured (log entries terminal)) ≡ false) (λ p. HoldsSale entries terminal n p)
  sale_found n place e o holds =
      let at = captured_place_at (log entries terminal) n place fit (sym (e ∙ index.tallies.captured n)) in
      in_entry place at.item at.there o holds
      (λ o. MatchOption o ((a : ℕ) → list_any (is_sale_of n a) (captured (log entries terminal)) ≡ false) (λ p. HoldsSale entries terminal n p))
      (λ p h same. record { item = h.item; amount = λ a. at.amount a ∙ ap (λ (i : Item). amount_in i == a) (sym same); in_entries = h.in_entries })

  pub no_capture_found : (k : ℕ) → None ≡ slice_get x.kept.items k → length (captured (log entries terminal)) ≤ k
  no_capture_found k e = omega (arith, none_past x.kept.items k (sym e), ap length index.tallies.kept, length-captured_places (log entries terminal))

  pub capture_found : (k place : ℕ) → Some place ≡ slice_get x.kept.items k → (o : Option ℕ) → MatchOption o (length (log entries terminal) ≤ place) (λ p. HoldsItem entries terminal place p)
      → MatchOption o (length (captured (log entries terminal)) ≤ k) (λ p. HoldsCaptured entries terminal k p)
  capture_found k place e o holds =
      let at = captured_at (log entries terminal) k place (sym (e ∙ ap (λ (l : List ℕ). slice_get l k) index.tallies.kept)) in
      in_entry place at.item at.there o holds
      (λ o. MatchOption o (length (captured (log entries terminal)) ≤ k) (λ p. HoldsCaptured entries terminal k p))
      (λ p h same. record { item = at.item; is_captured = at.is_captured; in_entries = subst (λ (i : Item). slice_get entries p ≡ Some (Took terminal i)) same h.in_entries })

  pub no_period_0 : totals (log entries terminal) 0 ≡ None
  no_period_0 = cond-false (list_any (is_close 0) (log entries terminal)) _ _ (index.tallies.periods.close 0)

  pub period_found : (p : ℕ) (o : Option Totals) → 1 ≤ p → o ≡ slice_get x.closed.items (p - 1) → o ≡ totals (log entries terminal) p
  period_found p None low e =
      sym
      (cond-false (list_any (is_close p) (log entries terminal)) _ _
      (index.tallies.periods.close p
      ∙ false_from_ne_true _ (λ yes. let no' : ⊥ = omega (arith, low, none_past x.closed.items (p - 1) (sym e), leb-true p (length x.closed.items) (and_parts (nat_le 1 p) (nat_le p (length x.closed.items)) yes).1) in no')))
  period_found p (Some t) low e =
      let high : p ≤ length x.closed.items = omega (arith, low, slice_get_within x.closed.items (p - 1) t (sym e)) in
      let is : t ≡ period_totals (log entries terminal) p = sym (get_or_from_slice_get x.closed.items (p - 1) t t (sym e)) ∙ index.tallies.periods.closed_are p t low high in
      ap (λ (s : Totals). Some s) is
      ∙ sym (cond-true (list_any (is_close p) (log entries terminal)) _ _ (index.tallies.periods.close p ∙ and_from (nat_le 1 p) (nat_le p (length x.closed.items)) (le-leb 1 p low) (le-leb p (length x.closed.items) high)))
