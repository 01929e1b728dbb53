-- Counts of sales are at most the sales.
use Rattle.std.proofs.Common.{ℕ, ◌+◌, ◌≤◌, List, [], ◌∷◌, length, arith}
use Rattle.std.specs.Prelude.{sum_by, fold}
use Rattle.cap_terminal.specs.declared.sale_row.Stage.{Stage}
use Rattle.cap_terminal.specs.declared.sale_row.Stage.TheVariants.{Pending, Declined, Completed, Voided, Cancelled}
use Rattle.cap_terminal.specs.declared.sale_row.SaleRow.{SaleRow}
use Rattle.cap_terminal.specs.Index.{done_of, back_of, given_up_of, done_count, back_count, given_up_count}

done_low : (stage : Stage) → done_of stage ≤ 1
done_low Pending = omega arith
done_low Declined = omega arith
done_low Completed = omega arith
done_low Voided = omega arith
done_low Cancelled = omega arith

back_low : (stage : Stage) → back_of stage ≤ 1
back_low Pending = omega arith
back_low Declined = omega arith
back_low Completed = omega arith
back_low Voided = omega arith
back_low Cancelled = omega arith

given_up_low : (stage : Stage) → given_up_of stage ≤ 1
given_up_low Pending = omega arith
given_up_low Declined = omega arith
given_up_low Completed = omega arith
given_up_low Voided = omega arith
given_up_low Cancelled = omega arith

sum_low : (f : SaleRow → ℕ) → ((row : SaleRow) → f row ≤ 1) → (a : ℕ) (rows : List SaleRow) → fold (λ a row. a + f row) a rows ≤ a + length rows
sum_low f low a [] = omega arith
sum_low f low a (row ∷ rows) = omega (arith, low row, sum_low f low (a + f row) rows)

pub done_within : (rows : List SaleRow) → sum_by done_count rows ≤ length rows
done_within rows = let h : sum_by done_count rows ≤ 0 + length rows = sum_low done_count (λ row. done_low row.stage) 0 rows in omega (arith, h)

pub back_within : (rows : List SaleRow) → sum_by back_count rows ≤ length rows
back_within rows = let h : sum_by back_count rows ≤ 0 + length rows = sum_low back_count (λ row. back_low row.stage) 0 rows in omega (arith, h)

pub given_up_within : (rows : List SaleRow) → sum_by given_up_count rows ≤ length rows
given_up_within rows = let h : sum_by given_up_count rows ≤ 0 + length rows = sum_low given_up_count (λ row. given_up_low row.stage) 0 rows in omega (arith, h)
