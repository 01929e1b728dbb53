use Rattle.std.proofs.Common.{◌≡◌, ◌∙◌, subst}
use Rattle.cap_base.specs.Captured.{totals}
use Rattle.cap_entries.specs.Items.{items}
use Rattle.cap_terminal.proofs.Room_laws.{totals_here}
use Rattle.cap_terminal.proofs.terminal.Terminal.totals.Goals as goal

pub returns : goal.returns
returns g c =
    let s = c.self.invariant.0 in
    let entries = g.J.Journal.entries c.self.inside.journal in
    subst (λ (j : g.row.J.Denot). c.closed_totals.result ≡ totals (items (g.J.Journal.entries j)) c.args.p) c.self.view_is
    (c.closed_totals.ensures ∙ totals_here entries c.self.inside.index s.indexed s.legal c.args.p)
