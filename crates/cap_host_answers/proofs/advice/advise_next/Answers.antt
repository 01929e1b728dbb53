use Rattle.std.proofs.Common.{◌≡◌, ◌∙◌, sym, ap, List, [], true}
use Rattle.cap_base.specs.declared.item.Item.{Item}
use Rattle.cap_base.specs.Fits.{fits, all_fit}
use Rattle.cap_host_answers.specs.Plain.{is_closed_there}
use Rattle.cap_host_answers.specs.Standing.{taken_is_there, taken_fits}
use Rattle.cap_host_answers.proofs.advice.advise_next.Goals as goal

pub answer_item-requires-clause-fit : goal.answer_item-requires-clause-fit
answer_item-requires-clause-fit c =
    let ok : fits c.args.log.items c.args.item.now ≡ true =
    ap (λ (l : List Item). fits l c.args.item.now) (sym c.deref.ensures.value) ∙ (sym c.may_follow.ensures ∙ c.if-may_follow.true) in
    ap (all_fit []) (c.deref-then-may_follow.ensures.value ∙ c.in_ok-push.ensures.items) ∙ taken_fits c.args.log.items c.args.item.now c.requires ok

pub answer_item-requires-clause-there : goal.answer_item-requires-clause-there
answer_item-requires-clause-there c =
    ap (λ (l : List Item). is_closed_there l c.args.item.now) (c.deref-then-may_follow.ensures.value ∙ c.in_ok-push.ensures.items)
    ∙ taken_is_there c.args.log.items c.args.item.now
