use Rattle.std.proofs.Common.{◌≡◌, Bool, true, false, [], refl, ◌∙◌, ap, subst}
use Rattle.cap_journal.specs.File.{Has}
use Rattle.cap_plays.specs.Holding.{end_fewer}
use Rattle.cap_power.specs.Counting.{outcome_of_fault}
use Rattle.cap_power.specs.Images.{images_of, IsLeftBy, no_others_left}
use Rattle.cap_power.proofs.settling.settle_broken.Goals as goal

off_is_not_on : {A : Type 0} → false ≡ true → A
off_is_not_on e = cc

pub returns-clause-stays : goal.returns-clause-stays
returns-clause-stays g c = λ entries settled tried is_on doubt stands.
    end_fewer (Has g.E.Record.reading) (images_of (g.T.OverDisk.disk c.args.end)) (images_of c.disk_of.result) false entries [] settled tried is_on doubt stands (λ on. off_is_not_on on)
    (no_others_left c.cuts-cut.result (g.T.OverDisk.disk c.args.end) c.disk_of.result c.disk_of.ensures)

pub returns-clause-left : goal.returns-clause-left
returns-clause-left g c = (c.disk_of.result, refl, subst (λ (b : Bool). IsLeftBy b (g.T.OverDisk.disk c.args.end) c.disk_of.result) c.cuts-cut.ensures c.disk_of.ensures)

pub returns-clause-outcome : goal.returns-clause-outcome
returns-clause-outcome g c = c.outcome_of.ensures ∙ ap outcome_of_fault c.cuts-cut.ensures
