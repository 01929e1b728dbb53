use Rattle.std.proofs.Common.{◌≡◌, Bool, true, false, [], subst, arith}
use Rattle.cap_journal.specs.File.{Has}
use Rattle.cap_plays.specs.Holding.{end_fewer, end_cut}
use Rattle.cap_power.specs.Images.{images_of, no_others_left}
use Rattle.cap_power.proofs.settling.settle_done.Goals as goal

both : {A : Type 0} (b d : Bool) → b ≡ d → b ≡ true → d ≡ false → A
both b d same is is_not = cc

neither : {A : Type 0} (b d : Bool) → b ≡ d → b ≡ false → d ≡ true → A
neither b d same is_not is = cc

pub returns-then-cuts_after-clause-stays : goal.returns-then-cuts_after-clause-stays
returns-then-cuts_after-clause-stays g c = λ other. both c.cuts_after.result _ c.cuts_after.ensures c.if-cuts_after.true other

pub returns-then-cuts_after-clause-outcome : goal.returns-then-cuts_after-clause-outcome
returns-then-cuts_after-clause-outcome g c = λ other. both c.cuts_after.result _ c.cuts_after.ensures c.if-cuts_after.true other

pub returns-then-cuts_after-clause-cut : goal.returns-then-cuts_after-clause-cut
returns-then-cuts_after-clause-cut g c = λ cut settled added is.
    let O = g.T.OverDisk in
    let has = Has g.E.Record.reading in
    end_cut has (images_of c.disk_of.result) [] settled added (λ image left.
    subst (λ l. has image l) is (g.met.T.OverDisk.kept c.args.end image c.requires (no_others_left true (O.disk c.args.end) c.disk_of.result c.disk_of.ensures image left)))

pub returns-clause-stays : goal.returns-clause-stays
returns-clause-stays g c = λ uncut settled tried is_on doubt stands.
    let O = g.T.OverDisk in
    let now = c.in_ok-end.end in
    end_fewer (Has g.E.Record.reading) (images_of (O.disk c.args.end)) (images_of (O.disk now)) true (O.entries c.args.end) (O.entries now) settled tried is_on doubt stands (λ on. c.in_ok-end.ensures.entries) c.in_ok-end.ensures.images

pub returns-clause-cut : goal.returns-clause-cut
returns-clause-cut g c = λ other. neither c.cuts_after.result _ c.cuts_after.ensures c.if-cuts_after.false other

pub returns-clause-was_cut : goal.returns-clause-was_cut
returns-clause-was_cut g c = λ other. neither c.cuts_after.result _ c.cuts_after.ensures c.if-cuts_after.false other

pub returns-clause-ready : goal.returns-clause-ready
returns-clause-ready g c = λ calls stop is unarmed. (c.in_ok-end.ensures.works, record { calls = calls; few = omega arith; is = c.in_ok-end.ensures.counts calls stop is unarmed })

pub unarmed-requires : goal.unarmed-requires
unarmed-requires g c = c.requires
