use Rattle.std.proofs.Common.{◌≡◌, subst}
use Rattle.cap_entries.specs.Acked.{acked}
use Rattle.cap_terminal.proofs.Room_laws.{acked_is}
use Rattle.cap_terminal.proofs.terminal.Terminal.acked.Goals as goal

pub returns : goal.returns
returns g c =
    let s = c.self.invariant.0 in
    let entries = g.J.Journal.entries c.self.inside.journal in
    subst (λ (j : g.row.J.Denot). c.self.inside.index.acked ≡ acked (g.J.Journal.entries j)) c.self.view_is
    (acked_is entries c.self.inside.index s.indexed s.legal)
