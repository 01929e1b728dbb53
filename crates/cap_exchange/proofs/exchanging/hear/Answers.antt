use Rattle.std.proofs.Common.{◌≡◌, ℕ, List, ◌++◌, ◌∙◌, drop, refl, sym, subst}
use Rattle.std.proofs.lemmas.Bool.{false≢true}
use Rattle.cap_frame.specs.Frame.{IsBody, IsWhole, frame_of}
use Rattle.cap_exchange.proofs.Begun.{begun_fed, stated_of_fed, first_fed, at_none}
use Rattle.cap_exchange.proofs.exchanging.hear.Goals as goal

pub returns-in-Err : goal.returns-in-Err
returns-in-Err c = record {
  ok = (c.in-Err.ensures.bad.0 refl, stated_of_fed (c.args.framer.now ++ c.args.piece.now) c.feed.new.self _ c.feed.ensures.held c.in-Err.ensures.stated);
}

pub returns-in_default-next : goal.returns-in_default-next
returns-in_default-next c =
    let same = at_none c.next.result _ _ c.in_default-next.is c.next.follows.holds-at-none in
    record {
      ok = begun_fed (c.args.framer.now ++ c.args.piece.now) c.next.follows.lender-at-none (same ∙ c.feed.ensures.held) (λ bad. false≢true (c.in_default.ensures.bad.1 bad))
          (λ whole. false≢true (c.in_default-next.ensures.waits.1 (subst IsWhole same whole)));
    }

pub returns-in-Ok : goal.returns-in-Ok
returns-in-Ok c =
    let b = c.feed.ensures.begun in
    record {
      ok = subst (λ (l : List ℕ). IsBody l × ((more : List ℕ) × (c.args.framer.now ++ c.args.piece.now ≡ frame_of l ++ more))) (sym c.in-Ok.ensures.items)
          (c.in-Some.ensures.some.1, (drop b.0 c.args.piece.now, first_fed c.args.framer.now c.args.piece.now c.feed.new.self c.in-Some.body.now b.0 b.2 c.in-Some.ensures.some.0));
    }
