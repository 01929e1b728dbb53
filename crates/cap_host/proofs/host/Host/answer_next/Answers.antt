use Rattle.std.proofs.Common.{◌≡◌, ◌∙◌, ◌++◌, ◌∷◌, [], sym, ap, true}
use Rattle.cap_base.specs.declared.item.Item.{Item}
use Rattle.cap_base.specs.declared.item.Item.TheVariants.{Close}
use Rattle.cap_base.specs.declared.item.Totals.{Totals}
use Rattle.cap_base.specs.Fits.{fits}
use Rattle.cap_entries.specs.Log.{log}
use Rattle.cap_host_answers.specs.Answer.{answer_of_item}
use Rattle.cap_host.specs.Host.{entries_of}
use Rattle.cap_host.specs.Reply.{reconciled_with}
use Rattle.cap_host.proofs.Closing.{closing_totals}
use Rattle.cap_host.proofs.host.Host.answer_next.Goals as goal

pub returns-in-Close : goal.returns-in-Close
returns-in-Close g c =
    let own = log (entries_of c.args.self.now) c.args.terminal in
    let p = c.in-Close.p in
    let totals = c.in-Close.totals in
    let fit : fits own (Close p totals) ≡ true = ap (λ (item : Item). fits own item) (sym c.in-Close.is) ∙ c.requires.fits in
    c.reconciled.ensures
    ∙ (ap (λ (t : Totals). reconciled_with p totals t) (c.running.ensures ∙ closing_totals p totals own fit)
    ∙ ap (λ (item : Item). answer_of_item (own ++ item ∷ []) item) (sym c.in-Close.is))
