use Rattle.std.proofs.Common.{◌≡◌, length, arith, subst}
use Rattle.cap_terminal_answers.specs.declared.counts.Counts.{Counts}
use Rattle.cap_terminal_answers.specs.Counts.{counts_of}
use Rattle.cap_terminal.proofs.Room_laws.{counts_here}
use Rattle.cap_terminal.proofs.terminal.Terminal.counts.Goals as goal

pub returns : goal.returns
returns g c =
    let s = c.self.invariant.0 in
    let x = c.self.inside.index in
    let entries = g.J.Journal.entries c.self.inside.journal in
    let sales : c.len.result ≡ length x.sales.items = omega (arith, c.len.ensures) in
    let periods : c.len-2.result ≡ length x.closed.items = omega (arith, c.len-2.ensures) in
    let all = counts_here entries x s.indexed s.legal in
    subst (λ (j : g.row.J.Denot). ◌≡◌ {A = Counts} (record { sales = c.len.result; completed = x.completed; cancelled = x.cancelled; voided = x.voided; periods = c.len-2.result }) (counts_of (g.J.Journal.entries j))) c.self.view_is (cc)
