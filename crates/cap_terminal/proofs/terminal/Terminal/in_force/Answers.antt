use Rattle.std.proofs.Common.{◌≡◌, subst}
use Rattle.cap_entries.specs.InForce.{version_in_force}
use Rattle.cap_terminal.proofs.Room_laws.{sets_here}
use Rattle.cap_terminal.proofs.terminal.Terminal.in_force.Goals as goal

pub returns : goal.returns
returns g c =
    let s = c.self.invariant.0 in
    let entries = g.J.Journal.entries c.self.inside.journal in
    subst (λ (j : g.row.J.Denot). c.self.inside.index.sets.in_force ≡ version_in_force (g.J.Journal.entries j)) c.self.view_is
    ((sets_here entries c.self.inside.index s.indexed s.legal).in_force_is)
