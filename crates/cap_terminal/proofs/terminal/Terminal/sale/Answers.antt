use Rattle.std.proofs.Common.{subst, sym, Option}
use Rattle.cap_terminal.specs.declared.sale_row.SaleRow.{SaleRow}
use Rattle.cap_terminal.specs.Says.{Says}
use Rattle.cap_terminal.proofs.Room_laws.{says}
use Rattle.cap_terminal.proofs.terminal.Terminal.sale.Goals as goal

pub returns : goal.returns
returns g c =
    let s = c.self.invariant.0 in
    let entries = g.J.Journal.entries c.self.inside.journal in
    subst (λ (j : g.row.J.Denot). Says (g.J.Journal.entries j) c.args.n c.sale.result) c.self.view_is
    (subst (λ (o : Option SaleRow). Says entries c.args.n o) (sym c.sale.ensures) (says entries c.self.inside.index s.indexed s.legal c.args.n))
