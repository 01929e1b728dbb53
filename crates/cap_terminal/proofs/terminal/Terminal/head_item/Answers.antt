use Rattle.std.proofs.Common.{◌≡◌, ℕ, List, ◌∙◌, ap, subst}
use Rattle.std.specs.Prelude.{slice_get}
use Rattle.cap_base.specs.declared.item.Item.{Item}
use Rattle.cap_entries.specs.Items.{items}
use Rattle.cap_terminal_answers.specs.Takes.{queue_head}
use Rattle.cap_terminal.proofs.Room_laws.{items_is, acked_is}
use Rattle.cap_terminal.proofs.terminal.Terminal.head_item.Goals as goal

pub returns : goal.returns
returns g c =
    let s = c.self.invariant.0 in
    let x = c.self.inside.index in
    let entries = g.J.Journal.entries c.self.inside.journal in
    subst (λ (j : g.row.J.Denot). c.head.result ≡ queue_head (g.J.Journal.entries j)) c.self.view_is
    (c.head.ensures
    ∙ (ap (λ (l : List Item). slice_get l x.acked) (items_is entries x s.indexed s.legal)
    ∙ ap (λ (q : ℕ). slice_get (items entries) q) (acked_is entries x s.indexed s.legal)))
