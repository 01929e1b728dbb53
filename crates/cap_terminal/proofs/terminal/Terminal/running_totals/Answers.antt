use Rattle.std.proofs.Common.{◌≡◌, subst}
use Rattle.cap_base.specs.Captured.{period_totals}
use Rattle.cap_entries.specs.Items.{items}
use Rattle.cap_terminal.specs.Live.{open_period}
use Rattle.cap_terminal.proofs.Room_laws.{running_is}
use Rattle.cap_terminal.proofs.terminal.Terminal.running_totals.Goals as goal

pub returns : goal.returns
returns g c =
    let s = c.self.invariant.0 in
    let entries = g.J.Journal.entries c.self.inside.journal in
    subst (λ (j : g.row.J.Denot). c.self.inside.index.running ≡ period_totals (items (g.J.Journal.entries j)) (open_period (g.J.Journal.entries j))) c.self.view_is
    (running_is entries c.self.inside.index s.indexed s.legal)
