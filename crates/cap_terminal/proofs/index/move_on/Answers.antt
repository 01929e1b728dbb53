use Rattle.std.proofs.Common.{◌≡◌, ◌≤◌, ◌-◌, ◌∙◌, sym, subst, arith, length}
use Rattle.std.specs.Prelude.{slice_set}
use Rattle.std.proofs.lemmas.List.{get_or_default}
use Rattle.cap_terminal.specs.declared.sale_row.SaleRow.{SaleRow}
use Rattle.cap_terminal.specs.Index.{blank_row, row_of}
use Rattle.cap_terminal.specs.Pending.{Notes}
use Rattle.cap_terminal.proofs.Waiting.{forgotten}
use Rattle.cap_terminal.proofs.index.move_on.Goals as goal

pub returns-clause-notes : goal.returns-clause-notes
returns-clause-notes c =
    let sales = c.args.sales.now.items in
    let low : 1 ≤ c.args.n = c.requires.low in
    let high : c.args.n ≤ length sales = c.requires.high in
    let row : c.index-row.result.now ≡ row_of sales c.args.n = c.index-row.ensures ∙ get_or_default sales (c.args.n - 1) c.index-row.result.now blank_row (omega (arith, low, high)) in
    subst (λ (r : SaleRow). Notes c.forget.new.self (slice_set sales (c.args.n - 1) (record { amount = r.amount; account = r.account; stage = c.args.stage }))) (sym row)
    (forgotten c.args.pending.now sales c.requires.notes c.forget.new.self c.args.n c.args.stage low high c.requires.ends c.forget.ensures)
