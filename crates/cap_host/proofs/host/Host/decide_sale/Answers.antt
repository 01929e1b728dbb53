use Rattle.std.proofs.Common.{◌≡◌, ◌∙◌, sym, ap, subst}
use Rattle.std.specs.Prelude.{IfOk}
use Rattle.cap_base.specs.declared.item.Item.{Item}
use Rattle.cap_sale_msgs.specs.declared.body.SaleBody.{SaleBody}
use Rattle.cap_msgs.specs.declared.message.Body.TheVariants.{Sale as Of_sale}
use Rattle.cap_entries.specs.Log.{log}
use Rattle.cap_host_answers.specs.Answer.{Answered, answer_of, answer_advice}
use Rattle.cap_host.specs.Decision.{decided}
use Rattle.cap_host.specs.Host.{entries_of}
use Rattle.cap_host.proofs.host.Host.decide_sale.Goals as goal

pub returns-in-CancelAdvice-clause-told : goal.returns-in-CancelAdvice-clause-told
returns-in-CancelAdvice-clause-told g c =
    let entries = entries_of c.args.self.now in
    let own = log entries c.args.terminal in
    let same : answer_advice c.args.terminal own c.args.number c.cancellation.result ≡ answer_of entries c.args.terminal c.args.number (Of_sale c.args.body.now) =
    ap (λ (item : Item). answer_advice c.args.terminal own c.args.number item) c.cancellation.ensures
    ∙ ap (λ (body : SaleBody). answer_of entries c.args.terminal c.args.number (Of_sale body)) (sym c.in-CancelAdvice.is) in
    subst (λ (x : Answered). IfOk c.advise-in-CancelAdvice.result (λ decision. decided decision ≡ x)) same c.advise-in-CancelAdvice.ensures.told
