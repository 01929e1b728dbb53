use Rattle.std.proofs.Common.{◌++◌, ℕ, List, [], take, refl, sym, ap, ◌∙◌, append_assoc, arith}
use Rattle.std.proofs.lemmas.List.{append-nil, take-append-drop}
use Rattle.cap_link.specs.Lines.{nothing}
use Rattle.cap_drive.proofs.Pieces.{going_nothing, goes_more, goes_as, stops_later_in, stops_as, risen_later}
use Rattle.cap_drive.proofs.connection.serve_piece.Goals as goal

pub bytes-init : goal.bytes-init
bytes-init g c = record {
  served = ([], refl, going_nothing _ _ _ _ _ _ [] [] c.args.framer.now c.args.framer.now _ _ _ c.args.tally.now (sym (append-nil _)) (λ told. nothing _ (g.met.L.Link.shows_open c.args.link.now told c.requires.open)));
  open_now = c.requires.open;
  begun = c.requires.begun;
  few = c.requires.few;
  replied = c.requires.replied;
  works = c.requires.works;
  faults = omega arith;
  is_readable = refl;
  host_tells = refl;
  told = refl;
  line_later = omega arith;
  tells = refl;
  port = refl;
}

pub bytes-preserved : goal.bytes-preserved
bytes-preserved g c =
    let inv = c.bytes.invariant in
    let e = c.in-Ok.ensures in
    let n = c.in-Ok.count in
    let rest : List ℕ = c.bytes.rest.now in
    record {
      served = (
        inv.served.0 ++ take n rest,
        append_assoc inv.served.0 (take n rest) c.split_at.result.1.now ∙ (ap (λ (l : List ℕ). inv.served.0 ++ l) (ap (λ (l : List ℕ). take n rest ++ l) c.split_at.ensures.back ∙ take-append-drop n rest) ∙ inv.served.1),
        goes_more _ _ _ _ _ _ [] [] inv.served.0 (take n rest) _ _ _ _ _ _ _ _ _ _ _ _ inv.served.2
            (goes_as _ _ _ _ _ _ _ _ _ _ inv.host_tells inv.is_readable inv.told inv.tells [] _ _ _ _ _ _ _ _ _ e.ok.2),
      );
      open_now = e.open;
      begun = e.begun;
      few = e.few;
      replied = e.replied;
      works = e.works;
      faults = omega (arith, e.faults, inv.faults);
      is_readable = e.is_readable ∙ inv.is_readable;
      host_tells = e.host_tells ∙ inv.host_tells;
      told = e.told ∙ inv.told;
      line_later = omega (arith, e.line_later, inv.line_later);
      tells = e.tells ∙ inv.tells;
      port = e.port ∙ inv.port;
    }

pub returns-in-Err-clause-err : goal.returns-in-Err-clause-err
returns-in-Err-clause-err g c =
    let inv = c.bytes.invariant in
    stops_later_in _ _ _ _ _ _ _ _ c.in-Err.closing _ [] [] inv.served.0 c.bytes.rest.now c.args.piece.now _ _ _ _ _ _ _ _ _ _ _ inv.served.1 inv.served.2
    (stops_as _ _ _ _ _ _ _ _ _ _ inv.host_tells inv.is_readable inv.told inv.tells _ _ c.in-Err.closing _ [] _ _ _ _ _ _ _ _ c.in-Err.ensures.err)

pub returns-in-Err-clause-risen : goal.returns-in-Err-clause-risen
returns-in-Err-clause-risen g c =
    let inv = c.bytes.invariant in
    risen_later c.in-Err.closing _ _ _ _ _ _ inv.line_later inv.faults c.in-Err.ensures.risen
