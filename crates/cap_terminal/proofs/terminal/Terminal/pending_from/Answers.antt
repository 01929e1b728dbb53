use Rattle.std.proofs.Common.{subst}
use Rattle.std.specs.Prelude.{MatchOption}
use Rattle.cap_terminal.specs.Live.{PendsNoneFrom, IsLeastPending}
use Rattle.cap_terminal.proofs.Room_laws.{least_here}
use Rattle.cap_terminal.proofs.terminal.Terminal.pending_from.Goals as goal

pub returns : goal.returns
returns g c =
    let s = c.self.invariant.0 in
    let entries = g.J.Journal.entries c.self.inside.journal in
    subst (λ (j : g.row.J.Denot). MatchOption c.pending_from.result (PendsNoneFrom (g.J.Journal.entries j) c.args.n) (λ k. IsLeastPending (g.J.Journal.entries j) c.args.n k)) c.self.view_is
    (least_here entries c.self.inside.index s.indexed s.legal c.args.n c.pending_from.result c.pending_from.ensures)
