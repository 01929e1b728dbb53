use Rattle.std.proofs.Common.{◌++◌, ℕ, List, [], take, length, refl, sym, ap, subst, ◌∙◌, arith, IsTrue}
use Rattle.std.proofs.lemmas.List.{length-append, length-map}
use Rattle.cap_link.specs.Lines.{Lines, Exchanges, nothing}
use Rattle.cap_drive.specs.Frames.{Answered, bodies_of}
use Rattle.cap_drive.proofs.Begun.{begun_none, too_many}
use Rattle.cap_drive.proofs.Pieces.{going_nothing, goes_as, stops_as, risen_later}
use Rattle.cap_drive.proofs.Closed.{none_left, closed_end, closed_take, closed_lacking, goes_through, stops_through}
use Rattle.cap_drive.proofs.connection.serve_connection.Goals as goal

pub returns-in_default-clause-closes : goal.returns-in_default-clause-closes
returns-in_default-clause-closes g c =
    closed_lacking _ _ _ _ _ _ g.A.Answering.has g.A.Answering.is_allowed (g.A.Answering.may_leave c.args.host.now) [] _ _ _ c.args.tally.now c.args.tally.now c.requires.new c.requires.none [] _ _
    (going_nothing _ _ _ _ _ _ [] [] [] [] _ _ _ c.args.tally.now refl (λ told. nothing _ (g.met.L.Link.shows_open c.args.link.now told c.requires.open)))
    (begun_none [] refl) (omega (arith, c.requires.new)) (λ told. nothing _ (g.met.L.Link.shows_open c.args.link.now told c.requires.open))

pub takes-init : goal.takes-init
takes-init g c = record {
  served = ([], omega arith, going_nothing _ _ _ _ _ _ [] [] [] c.in-Ok.framer _ _ _ c.args.tally.now c.in-Ok.ensures (λ told. nothing _ (g.met.L.Link.shows_open c.args.link.now told c.requires.open)));
  open_now = c.requires.open;
  begun = begun_none c.in-Ok.framer c.in-Ok.ensures;
  few = omega (arith, c.requires.new);
  replied = omega (arith, c.requires.none);
  works = c.requires.works;
  faults = omega arith;
  is_readable = refl;
  host_tells = refl;
  told = refl;
  line_later = omega arith;
  tells = refl;
  port = refl;
}

pub returns-in_default-take-clause-closes : goal.returns-in_default-take-clause-closes
returns-in_default-take-clause-closes g c =
    let inv = c.takes.invariant in
    closed_take _ _ _ _ _ _ g.A.Answering.has g.A.Answering.is_allowed (g.A.Answering.may_leave c.takes.host) inv.served.0 _ _ _ c.args.tally.now _ c.requires.new c.requires.none c.takes.framer (g.L.Link.lines c.takes.link) _ inv.served.2 inv.begun inv.few
    (λ told. subst (λ (l : Lines). Exchanges [] [] (g.L.Link.lines c.takes.link) l) (sym (c.in_default-take.ensures.stays (inv.tells ∙ told)))
    (nothing _ (g.met.L.Link.shows_open c.takes.link (inv.tells ∙ told) inv.open_now)))

pub returns-then-count-eq0-clause-closes : goal.returns-then-count-eq0-clause-closes
returns-then-count-eq0-clause-closes g c =
    let inv = c.takes.invariant in
    let none = λ (told : IsTrue (g.L.Link.tells c.args.link.now)). subst (λ n. Exchanges (take n c.take.new.buf) [] (g.L.Link.lines c.takes.link) (g.L.Link.lines c.take.new.self)) c.if-count-eq0.true (c.in-Ok-take.ensures.bytes (inv.tells ∙ told)) in
    closed_end _ _ _ _ _ _ g.A.Answering.has g.A.Answering.is_allowed (g.A.Answering.may_leave c.takes.host) inv.served.0 _ _ _ c.args.tally.now _ c.requires.new c.requires.none c.takes.framer (g.L.Link.lines c.takes.link) (g.L.Link.lines c.take.new.self) inv.served.2 inv.begun inv.few none
    (λ told. none_left (g.L.Link.lines c.takes.link) (g.L.Link.lines c.take.new.self) (none told) ((c.in-Ok-take.ensures.end (inv.tells ∙ told)).0 c.if-count-eq0.true))

pub returns-in-Err-clause-closes : goal.returns-in-Err-clause-closes
returns-in-Err-clause-closes g c =
    let inv = c.takes.invariant in
    let p : List ℕ = c.split_at.result.0.now in
    stops_through _ _ _ _ _ _ _ _ c.in-Err.closing _ inv.served.0 p c.takes.framer _ _ _ _ (g.L.Link.lines c.takes.link) (g.L.Link.lines c.take.new.self) _ c.args.tally.now _ _ c.requires.new c.requires.none inv.served.2
    (λ told. subst (λ (l : List ℕ). Exchanges l [] (g.L.Link.lines c.takes.link) (g.L.Link.lines c.take.new.self)) (sym c.split_at.ensures.front) (c.in-Ok-take.ensures.bytes (inv.tells ∙ told)))
    (stops_as _ _ _ _ _ _ _ _ _ _ inv.host_tells inv.is_readable inv.told (c.in-Ok-take.ensures.tells ∙ inv.tells) _ _ c.in-Err.closing _ [] _ _ _ _ _ _ _ _ c.in-Err.ensures.err)

pub returns-in-Err-clause-risen : goal.returns-in-Err-clause-risen
returns-in-Err-clause-risen g c =
    let inv = c.takes.invariant in
    risen_later c.in-Err.closing _ _ _ _ _ _ (omega (arith, inv.line_later, c.in-Ok-take.ensures.cause.later)) inv.faults c.in-Err.ensures.risen

pub takes-preserved : goal.takes-preserved
takes-preserved g c =
    let inv = c.takes.invariant in
    let e = c.in_default-serve_piece.ensures in
    let p : List ℕ = c.split_at.result.0.now in
    record {
      served = (
        inv.served.0 ++ p,
        omega (arith, inv.served.1, length-append inv.served.0 p, ap length c.split_at.ensures.front, c.if-count-eq0.false),
        goes_through _ _ _ _ _ _ inv.served.0 p c.takes.framer _ _ _ _ _ (g.L.Link.lines c.takes.link) (g.L.Link.lines c.take.new.self) _ _ _ _ inv.served.2
            (λ told. subst (λ (l : List ℕ). Exchanges l [] (g.L.Link.lines c.takes.link) (g.L.Link.lines c.take.new.self)) (sym c.split_at.ensures.front) (c.in-Ok-take.ensures.bytes (inv.tells ∙ told)))
            (goes_as _ _ _ _ _ _ _ _ _ _ inv.host_tells inv.is_readable inv.told (c.in-Ok-take.ensures.tells ∙ inv.tells) [] _ _ _ _ _ _ _ _ _ e.ok),
      );
      open_now = e.open;
      begun = e.begun;
      few = e.few;
      replied = e.replied;
      works = e.works;
      faults = omega (arith, e.faults, inv.faults);
      is_readable = e.is_readable ∙ inv.is_readable;
      host_tells = e.host_tells ∙ inv.host_tells;
      told = e.told ∙ inv.told;
      line_later = omega (arith, e.line_later, c.in-Ok-take.ensures.cause.later, inv.line_later);
      tells = e.tells ∙ (c.in-Ok-take.ensures.tells ∙ inv.tells);
      port = e.port ∙ (c.in-Ok-take.ensures.port ∙ inv.port);
    }

pub unreachable-requires : goal.unreachable-requires
unreachable-requires g c =
    let inv = c.takes.invariant in
    let x = inv.served.2 in
    too_many inv.served.0 c.takes.framer (bodies_of x.answered) (length x.answered) x.joined x.sizes (length-map x.answered (λ (a : Answered). a.body)) (omega (arith, x.frames, c.requires.new, inv.few)) inv.begun.small (omega (arith, inv.served.1))
