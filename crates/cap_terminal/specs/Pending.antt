-- The numbers of pending sales, kept in order.
use Rattle.std.specs.Prelude.{◌≡◌, ◌≤◌, ◌<◌, ◌&&◌, ℕ, Bool, true, false, not, nat_le, List, length}
use Rattle.std.specs.Ordering.{nat_cmp}
use Rattle.std.specs.BTreeSet.{contains}
use Rattle.std.proofs.Props.{props}
use Rattle.cap_terminal.specs.declared.pending.Pending.{Pending}
use Rattle.cap_terminal.specs.declared.sale_row.SaleRow.{SaleRow}
use Rattle.cap_terminal.specs.Index.{row_of, is_ended}

-- the number is noted
abbrev pub notes : Pending → ℕ → Bool
notes pending n = contains nat_cmp pending.numbers n

-- no number from n on is
abbrev pub NotesNoneFrom : Pending → ℕ → Type 0
NotesNoneFrom pending n = (k : ℕ) → n ≤ k → notes pending k ≡ false

-- k is the least that is
pub record IsLeastNoted (pending : Pending) (n k : ℕ) : Type 0 where
  pub from : n ≤ k
  pub noted : notes pending k ≡ true
  pub least : (q : ℕ) → n ≤ q → q < k → notes pending q ≡ false

-- the sale with this number has no end yet
abbrev pub waits : List SaleRow → ℕ → Bool
waits sales n = (nat_le 1 n && nat_le n (length sales)) && not (is_ended (row_of sales n).stage)

-- up to the last sale exactly the pending ones are noted
abbrev pub Notes : Pending → List SaleRow → Type 0
Notes pending sales = (k : ℕ) → k ≤ length sales → notes pending k ≡ waits sales k

pub notes_prop : (pending : Pending) (sales : List SaleRow) → IsProp (Notes pending sales)
notes_prop pending sales = hlevel props

-- no sale from n on is pending
abbrev pub WaitsNoneFrom : List SaleRow → ℕ → Type 0
WaitsNoneFrom sales n = (k : ℕ) → n ≤ k → waits sales k ≡ false

-- k is the least pending sale from n on
pub record IsLeastWaiting (sales : List SaleRow) (n k : ℕ) : Type 0 where
  pub from : n ≤ k
  pub pending : waits sales k ≡ true
  pub least : (q : ℕ) → n ≤ q → q < k → waits sales q ≡ false
