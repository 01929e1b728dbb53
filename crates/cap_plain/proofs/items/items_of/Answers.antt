use Rattle.std.proofs.Common.{[], ◌∙◌, ap}
use Rattle.std.proofs.lemmas.Result.{IfOk-weaker}
use Rattle.cap_base.specs.Fits.{all_fit}
use Rattle.cap_plain.specs.LegalLaws.{items_fit}
use Rattle.cap_plain.proofs.items.items_of.Goals as goal

pub returns-clause-fit : goal.returns-clause-fit
returns-clause-fit c = IfOk-weaker c.make_items.result _ _ (λ v is. ap (all_fit []) is ∙ items_fit c.args.entries.now c.requires) c.make_items.ensures
