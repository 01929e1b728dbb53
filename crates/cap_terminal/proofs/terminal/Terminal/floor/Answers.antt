use Rattle.std.proofs.Common.{◌≡◌, ℕ, ◌∙◌, ap, subst}
use Rattle.cap_entries.specs.Settings.{TerminalSettings}
use Rattle.cap_entries.specs.Floor.{floor}
use Rattle.cap_terminal.specs.SetsIndex.{floor_or}
use Rattle.cap_terminal.proofs.Room_laws.{floor_here}
use Rattle.cap_terminal.proofs.terminal.Terminal.floor.Goals as goal

pub returns : goal.returns
returns g c =
    let s = c.self.invariant.0 in
    let entries = g.J.Journal.entries c.self.inside.journal in
    subst (λ (j : g.row.J.Denot). c.floor_or.result ≡ floor (g.J.Journal.entries j)) c.self.view_is
    (c.floor_or.ensures
    ∙ (ap (λ (own : ℕ). floor_or c.self.inside.index.sets.floor own) (c.floor.ensures.value ∙ ap (λ (settings : TerminalSettings). settings.floor) c.self.invariant.1)
    ∙ floor_here entries c.self.inside.index s.indexed s.legal))
