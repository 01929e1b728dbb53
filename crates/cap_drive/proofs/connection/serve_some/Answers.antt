use Rattle.std.proofs.Common.{◌++◌, [], take, drop, refl, subst, ◌∙◌}
use Rattle.std.proofs.lemmas.Bool.{false≢true}
use Rattle.cap_frame.specs.Frame.{IsWhole}
use Rattle.cap_link.specs.Lines.{nothing}
use Rattle.cap_drive.proofs.Begun.{begun_none, begun_fed, stated_of_fed}
use Rattle.cap_drive.proofs.Pieces.{going_nothing, going_frame, goes_all, stops_here, some_taken, at_none, at_some, zero_or}
use Rattle.cap_drive.proofs.connection.serve_some.Goals as goal

pub returns-in-Err-clause-err : goal.returns-in-Err-clause-err
returns-in-Err-clause-err g c = (
  c.args.framer.now ++ c.args.bytes.now,
  going_nothing _ _ _ _ _ _ [] c.args.bytes.now c.args.framer.now (c.args.framer.now ++ c.args.bytes.now) _ _ _ c.args.tally.now refl
      (λ told. nothing _ (g.met.L.Link.shows_open c.args.link.now told c.requires.open)),
  c.in-Err.ensures.bad.0 refl,
  stated_of_fed (c.args.framer.now ++ c.args.bytes.now) c.feed.new.self _ c.feed.ensures.held c.in-Err.ensures.stated,
  c.requires.few,
)

pub returns-in_default-clause-ok : goal.returns-in_default-clause-ok
returns-in_default-clause-ok g c =
    let n = c.in-Ok.count in
    let same = at_none c.next.result _ _ c.in_default.is c.next.follows.holds-at-none in (
      some_taken n c.args.framer.now c.args.bytes.now c.in-Ok.ensures.none.0 c.requires.begun.idle c.requires.some (zero_or n),
      c.in-Ok.ensures.took.0,
      going_nothing _ _ _ _ _ _ [] (take n c.args.bytes.now) c.args.framer.now c.next.follows.lender-at-none _ _ _ c.args.tally.now (same ∙ c.in-Ok.ensures.took.1)
          (λ told. nothing _ (g.met.L.Link.shows_open c.args.link.now told c.requires.open)),
    )

pub returns-in_default-clause-begun : goal.returns-in_default-clause-begun
returns-in_default-clause-begun g c =
    let same = at_none c.next.result _ _ c.in_default.is c.next.follows.holds-at-none in
    begun_fed (c.args.framer.now ++ c.args.bytes.now) c.next.follows.lender-at-none (same ∙ c.feed.ensures.held) (λ bad. false≢true (c.in-Ok.ensures.bad.1 bad)) (λ whole. false≢true (c.in_default.ensures.waits.1 (subst IsWhole same whole)))

pub returns-in-Err-serve_frame-clause-err : goal.returns-in-Err-serve_frame-clause-err
returns-in-Err-serve_frame-clause-err g c =
    stops_here _ _ _ _ _ _ _ _ c.in-Err-serve_frame.closing _ c.args.bytes.now c.args.framer.now c.feed.new.self c.in-Some.body.now c.in-Ok.count _ _ _ _ c.args.tally.now
    c.in-Ok.ensures.took.1 c.in-Some.ensures.some.0 c.in-Some.ensures.some.1 c.requires.few (λ told. nothing _ (g.met.L.Link.shows_open c.args.link.now told c.requires.open)) c.in-Err-serve_frame.ensures.err

pub returns-then-tally-eq-MOST_FRAMES-clause-err : goal.returns-then-tally-eq-MOST_FRAMES-clause-err
returns-then-tally-eq-MOST_FRAMES-clause-err g c =
    let n = c.in-Ok.count in
    let none = at_some c.next.result c.in-Some.body _ _ c.in-Some.is c.next.follows.holds-at-none in (
      c.next.follows.lender-at-none ++ drop n c.args.bytes.now,
      goes_all _ _ _ _ _ _ [] n c.args.bytes.now c.args.framer.now c.next.follows.lender-at-none _ _ _ _ _ _
          (going_frame _ _ _ _ _ _ (take n c.args.bytes.now) c.args.framer.now c.feed.new.self c.next.follows.lender-at-none c.in-Some.body.now _ _ _ _ c.args.tally.now c.in-Ok-serve_frame.replies
          c.in-Ok.ensures.took.1 c.in-Some.ensures.some.0 c.in-Some.ensures.some.1 none c.in-Ok-serve_frame.ensures.ok),
      c.if-tally-eq-MOST_FRAMES.true,
    )

pub returns-clause-ok : goal.returns-clause-ok
returns-clause-ok g c =
    let n = c.in-Ok.count in
    let none = at_some c.next.result c.in-Some.body _ _ c.in-Some.is c.next.follows.holds-at-none in (
      some_taken n c.args.framer.now c.args.bytes.now c.in-Ok.ensures.none.0 c.requires.begun.idle c.requires.some (zero_or n),
      c.in-Ok.ensures.took.0,
      going_frame _ _ _ _ _ _ (take n c.args.bytes.now) c.args.framer.now c.feed.new.self c.next.follows.lender-at-none c.in-Some.body.now _ _ _ _ c.args.tally.now c.in-Ok-serve_frame.replies
          c.in-Ok.ensures.took.1 c.in-Some.ensures.some.0 c.in-Some.ensures.some.1 none c.in-Ok-serve_frame.ensures.ok,
    )

pub returns-clause-begun : goal.returns-clause-begun
returns-clause-begun g c =
    begun_none c.next.follows.lender-at-none (at_some c.next.result c.in-Some.body _ _ c.in-Some.is c.next.follows.holds-at-none)
