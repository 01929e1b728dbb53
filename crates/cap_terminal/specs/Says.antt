-- What the stage of a sale says of the entries.
use Rattle.std.specs.Prelude.{◌≡◌, ℕ, true, false, ◌&&◌, nat_le, if◌then◌else◌, List, length, Option, Some, None}
use Rattle.std.specs.List.{list_any}
use Rattle.cap_entries.specs.declared.terminal.TermEntry.{TermEntry}
use Rattle.cap_entries.specs.Entry.{is_begin, ends, is_completed, is_cancelled, amount_of, account_of}
use Rattle.cap_terminal.specs.declared.sale_row.SaleRow.{SaleRow}
use Rattle.cap_terminal.specs.Index.{row_of, is_ended, is_done, is_taken_back}

abbrev pub sale_at : List SaleRow → ℕ → Option SaleRow
sale_at sales n = if nat_le 1 n && nat_le n (length sales) then Some (row_of sales n) else None

pub record IsSale (entries : List TermEntry) (n : ℕ) (row : SaleRow) : Type 0 where
  pub begun : list_any (is_begin n) entries ≡ true
  pub amount_is : row.amount ≡ amount_of entries n
  pub account_is : row.account ≡ account_of entries n
  pub ended : list_any (ends n) entries ≡ is_ended row.stage
  pub done : is_completed entries n ≡ is_done row.stage
  pub back : is_cancelled entries n ≡ is_taken_back row.stage

abbrev pub Says : List TermEntry → ℕ → Option SaleRow → Type 0
Says entries n None = (list_any (is_begin n) entries ≡ false) × (is_completed entries n ≡ false)
Says entries n (Some row) = IsSale entries n row
