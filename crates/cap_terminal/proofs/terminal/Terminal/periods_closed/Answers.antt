use Rattle.std.proofs.Common.{◌≡◌, length, arith, subst}
use Rattle.std.specs.Prelude.{count_by}
use Rattle.cap_entries.specs.Entry.{is_any_closed}
use Rattle.cap_terminal.proofs.Room_laws.{closes_count}
use Rattle.cap_terminal.proofs.terminal.Terminal.periods_closed.Goals as goal

pub returns : goal.returns
returns g c =
    let s = c.self.invariant.0 in
    let entries = g.J.Journal.entries c.self.inside.journal in
    let counted : length c.self.inside.index.closed.items ≡ count_by is_any_closed entries = closes_count entries c.self.inside.index s.indexed s.legal in
    subst (λ (j : g.row.J.Denot). c.len.result ≡ count_by is_any_closed (g.J.Journal.entries j)) c.self.view_is (omega (arith, c.len.ensures, counted))
