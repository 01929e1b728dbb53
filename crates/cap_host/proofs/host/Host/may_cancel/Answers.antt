use Rattle.std.proofs.Common.{◌≡◌, ◌∙◌, sym, subst, Bool, true, []}
use Rattle.std.specs.Prelude.{IfOk}
use Rattle.cap_base.specs.Fits.{all_fit}
use Rattle.cap_entries.specs.Log.{log}
use Rattle.cap_host.specs.Host.{entries_of}
use Rattle.cap_host.proofs.Behind.{behind_cancelled, behind_sold, behind_other}
use Rattle.cap_host.proofs.TiesLaws.{ties_fit}
use Rattle.cap_host.proofs.host.Host.may_cancel.Goals as goal

pub returns-then-has_cancel-clause-value : goal.returns-then-has_cancel-clause-value
returns-then-has_cancel-clause-value g c =
    sym (behind_cancelled c.args.n c.args.hundredths (log (entries_of c.args.self.now) c.args.terminal) c.args.taken.now (sym c.has_cancel.ensures ∙ c.if-has_cancel.true))

pub returns-then-has_sale-clause-value : goal.returns-then-has_sale-clause-value
returns-then-has_sale-clause-value g c =
    let own = log (entries_of c.args.self.now) c.args.terminal in
    let fit : all_fit [] own ≡ true = ties_fit _ _ _ _ c.args.self.now.ties c.args.terminal in
    sym (behind_sold c.args.n c.args.hundredths own c.args.taken.now fit c.requires.fit (sym c.has_cancel.ensures ∙ c.if-has_cancel.false) (sym c.has_sale.ensures ∙ c.if-has_sale.true))

pub returns-clause-value : goal.returns-clause-value
returns-clause-value g c =
    let own = log (entries_of c.args.self.now) c.args.terminal in
    subst (λ (b : Bool). IfOk c.is_captured.result (λ may. may ≡ b))
    (sym (behind_other c.args.n c.args.hundredths own c.args.taken.now (sym c.has_cancel.ensures ∙ c.if-has_cancel.false) (sym c.has_sale.ensures ∙ c.if-has_sale.false)))
    c.is_captured.ensures.value
