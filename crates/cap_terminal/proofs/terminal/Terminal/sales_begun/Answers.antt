use Rattle.std.proofs.Common.{◌≡◌, length, arith, subst}
use Rattle.std.specs.Prelude.{count_by}
use Rattle.cap_entries.specs.Entry.{is_any_begin}
use Rattle.cap_terminal.proofs.Room_laws.{sales_count}
use Rattle.cap_terminal.proofs.terminal.Terminal.sales_begun.Goals as goal

pub returns : goal.returns
returns g c =
    let s = c.self.invariant.0 in
    let entries = g.J.Journal.entries c.self.inside.journal in
    let counted : length c.self.inside.index.sales.items ≡ count_by is_any_begin entries = sales_count entries c.self.inside.index s.indexed s.legal in
    subst (λ (j : g.row.J.Denot). c.len.result ≡ count_by is_any_begin (g.J.Journal.entries j)) c.self.view_is (omega (arith, c.len.ensures, counted))
