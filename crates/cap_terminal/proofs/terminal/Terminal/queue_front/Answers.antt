use Rattle.std.proofs.Common.{◌≡◌, ℕ, List, ◌∙◌, ap, subst, take, drop}
use Rattle.std.specs.Prelude.{IfOk}
use Rattle.cap_base.specs.declared.item.Item.{Item}
use Rattle.cap_entries.specs.Items.{items}
use Rattle.cap_plain.specs.Queue.{queue}
use Rattle.cap_terminal.proofs.Room_laws.{items_is, acked_is}
use Rattle.cap_terminal.proofs.terminal.Terminal.queue_front.Goals as goal

pub returns : goal.returns
returns g c =
    let s = c.self.invariant.0 in
    let x = c.self.inside.index in
    let entries = g.J.Journal.entries c.self.inside.journal in
    let same : drop x.acked x.items.items ≡ queue entries = ap (λ (l : List Item). drop x.acked l) (items_is entries x s.indexed s.legal) ∙ ap (λ (q : ℕ). drop q (items entries)) (acked_is entries x s.indexed s.legal) in
    subst (λ (j : g.row.J.Denot). IfOk c.queue_front.result (λ front. front.items ≡ take c.args.limit (queue (g.J.Journal.entries j)))) c.self.view_is
    (subst (λ (l : List Item). IfOk c.queue_front.result (λ front. front.items ≡ take c.args.limit l)) same c.queue_front.ensures)
