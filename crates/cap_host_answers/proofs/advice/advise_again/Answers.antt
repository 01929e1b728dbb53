use Rattle.std.proofs.Common.{◌∙◌, sym, ap, Option}
use Rattle.cap_base.specs.declared.item.Item.{Item}
use Rattle.cap_host_answers.specs.Answer.{same_item}
use Rattle.cap_host_answers.specs.Standing.{same_is_there}
use Rattle.cap_host_answers.proofs.advice.advise_again.Goals as goal

pub answer_item-requires-clause-there : goal.answer_item-requires-clause-there
answer_item-requires-clause-there c =
    same_is_there c.args.log.now c.args.m c.args.item.now
    (ap (λ (o : Option Item). same_item o c.args.item.now) (sym c.item_under.ensures) ∙ (sym c.is_same.ensures ∙ c.if-is_same.true))
