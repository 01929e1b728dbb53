use Rattle.std.proofs.Common.{◌≡◌, ◌∙◌, sym, ap, subst, IfOk}
use Rattle.cap_sale_msgs.specs.declared.body.SaleBody.{SaleBody}
use Rattle.cap_msgs.specs.declared.message.Body.TheVariants.{Sale as Of_sale}
use Rattle.cap_base.specs.declared.item.Item.{Item}
use Rattle.cap_entries.specs.Log.{log}
use Rattle.cap_host_answers.specs.Answer.{Answered, answer_of, answer_advice}
use Rattle.cap_host_answers.proofs.plain.answer_sale.Goals as goal

pub returns-in-CancelAdvice : goal.returns-in-CancelAdvice
returns-in-CancelAdvice c =
    let own = log c.args.entries.now c.args.place in
    let same : answer_advice c.args.place own c.args.number c.cancellation.result ≡ answer_of c.args.entries.now c.args.place c.args.number (Of_sale c.args.body.now) =
    ap (λ (item : Item). answer_advice c.args.place own c.args.number item) c.cancellation.ensures
    ∙ ap (λ (body : SaleBody). answer_of c.args.entries.now c.args.place c.args.number (Of_sale body)) (sym c.in-CancelAdvice.is) in
    subst (λ (x : Answered). IfOk c.advise_at-in-CancelAdvice.result (λ a. a ≡ x)) same c.advise_at-in-CancelAdvice.ensures
