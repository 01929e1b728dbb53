use Rattle.std.proofs.Common.{◌≡◌, length, arith, ap, subst}
use Rattle.cap_entries.specs.Items.{items}
use Rattle.cap_terminal.proofs.Room_laws.{items_is}
use Rattle.cap_terminal.proofs.terminal.Terminal.items_len.Goals as goal

pub returns : goal.returns
returns g c =
    let s = c.self.invariant.0 in
    let entries = g.J.Journal.entries c.self.inside.journal in
    let made : length c.self.inside.index.items.items ≡ length (items entries) = ap length (items_is entries c.self.inside.index s.indexed s.legal) in
    subst (λ (j : g.row.J.Denot). c.len.result ≡ length (items (g.J.Journal.entries j))) c.self.view_is (omega (arith, c.len.ensures, made))
