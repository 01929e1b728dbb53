use Rattle.std.proofs.Common.{ℕ, List, [], ◌++◌, ◌∙◌, length, refl, sym, ap, subst, arith, Option, Result}
use Rattle.std.specs.Global.{Vec}
use Rattle.cap_link.specs.Lines.{Exchanges}
use Rattle.cap_exchange.specs.declared.heard.NoAnswer.{NoAnswer}
use Rattle.cap_exchange.specs.Exchange.{seen}
use Rattle.cap_exchange.specs.Hearing.{HearsPiece}
use Rattle.cap_exchange.proofs.Begun.{begun_short}
use Rattle.cap_exchange.proofs.Talking.{on_err, talks_nothing, takes_more, faults_in_take, hears_piece}
use Rattle.cap_exchange.proofs.exchanging.listen.Goals as goal

pub takes-init : goal.takes-init
takes-init g c = record {
  many = omega arith;
  begun = begun_short c.args.framer.now (omega (arith, ap length c.requires.none));
  talks = talks_nothing _ c.args.framer.now _ c.requires.none (λ told. g.met.L.Link.shows_open c.args.link.now told c.requires.open);
  open_now = c.requires.open;
  tells = refl;
}

pub returns-in_default-clause-ok : goal.returns-in_default-clause-ok
returns-in_default-clause-ok g c =
    let inv = c.takes.invariant in
    let e = c.in_default.ensures in
    faults_in_take _ c.takes.framer (seen g.L.Link c.args.link.now) (seen g.L.Link c.takes.link) (seen g.L.Link c.take.new.self) inv.begun inv.talks (λ told. e.stays (inv.tells ∙ told))
    (record { port = omega (arith, e.port); line = e.cause.later }) e.cause.failed

pub returns-in_err-heard-clause-err : goal.returns-in_err-heard-clause-err
returns-in_err-heard-clause-err g c =
    let inv = c.takes.invariant in
    let p : List ℕ = c.split_at.result.0.now in
    on_err c.from_residual.result _ (record {
      taken = c.takes.framer ++ p;
      takes = takes_more _ c.takes.framer p (seen g.L.Link c.args.link.now) (seen g.L.Link c.takes.link) (seen g.L.Link c.take.new.self) inv.talks
          (λ told. subst (λ (l : List ℕ). Exchanges l [] (g.L.Link.lines c.takes.link) (g.L.Link.lines c.take.new.self)) (sym c.split_at.ensures.front) (c.in-Ok.ensures.bytes (inv.tells ∙ told)))
          (record { port = omega (arith, c.in-Ok.ensures.port); line = c.in-Ok.ensures.cause.later });
    })

pub returns-in-Some-clause-ok : goal.returns-in-Some-clause-ok
returns-in-Some-clause-ok g c =
    let inv = c.takes.invariant in
    let p : List ℕ = c.split_at.result.0.now in
    hears_piece _ c.in-Some.heard (c.takes.framer ++ p) c.hear.new.framer (seen g.L.Link c.args.link.now) (seen g.L.Link c.take.new.self)
    (subst (λ (h : Option (Result (Vec ℕ) NoAnswer)). HearsPiece h (c.takes.framer ++ p) c.hear.new.framer) c.in-Some.is c.in_ok-heard.ensures.ok)
    (takes_more _ c.takes.framer p (seen g.L.Link c.args.link.now) (seen g.L.Link c.takes.link) (seen g.L.Link c.take.new.self) inv.talks
    (λ told. subst (λ (l : List ℕ). Exchanges l [] (g.L.Link.lines c.takes.link) (g.L.Link.lines c.take.new.self)) (sym c.split_at.ensures.front) (c.in-Ok.ensures.bytes (inv.tells ∙ told)))
    (record { port = omega (arith, c.in-Ok.ensures.port); line = c.in-Ok.ensures.cause.later }))
