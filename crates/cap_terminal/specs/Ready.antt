-- What the index needs before it follows an entry.
use Rattle.std.specs.Prelude.{◌≡◌, ℕ, ◌+◌, ◌≤◌, ◌<◌, ⊤, true, length, vec_len, vec_capacity}
use Rattle.cap_terminal.specs.declared.change.Change.{Change}
use Rattle.cap_terminal.specs.declared.change.Change.TheVariants.{Nothing, Begin, Decline, Complete, GiveUp, TakeBack, Close, Acknowledge, Stage as Stage_change}
use Rattle.cap_terminal.specs.declared.sale_row.Stage.{Stage}
use Rattle.cap_terminal.specs.declared.sale_row.Stage.TheVariants.{Pending, Completed}
use Rattle.cap_terminal.specs.declared.index.Index.{Index}
use Rattle.cap_terminal.specs.Index.{row_of}
use Rattle.cap_terminal.specs.Pending.{notes}

-- this sale is there, at this stage
pub record IsAt (x : Index) (n : ℕ) (stage : Stage) : Type 0 where
  pub low : 1 ≤ n
  pub high : n ≤ length x.sales.items
  pub at : (row_of x.sales.items n).stage ≡ stage

pub record HasSaleRoom (x : Index) : Type 0 where
  pub few : vec_len x.sales < 250000
  pub room : vec_len x.items + x.owed + 2 ≤ vec_capacity x.items
  pub sale_room : vec_len x.sales < vec_capacity x.sales
  pub noted : notes x.pending (length x.sales.items + 1) ≡ true

pub record HasPeriodRoom (x : Index) : Type 0 where
  pub room : vec_len x.items + x.owed + 1 ≤ vec_capacity x.items
  pub period_room : vec_len x.closed < vec_capacity x.closed

abbrev pub IsReady : Index → Change → Type 0
IsReady x Nothing = ⊤
IsReady x (Begin amount account) = HasSaleRoom x
IsReady x (Decline n) = IsAt x n Pending
IsReady x (Complete n code) = IsAt x n Pending
IsReady x (GiveUp n) = IsAt x n Pending
IsReady x (TakeBack n) = IsAt x n Completed
IsReady x (Close p) = HasPeriodRoom x
IsReady x (Acknowledge m) = ⊤
IsReady x (Stage_change numbers floor) = ⊤

-- by how much the entries grow that sales may still need, and by how much they fall
abbrev pub more_owed : Change → ℕ
more_owed Nothing = 0
more_owed (Begin amount account) = 2
more_owed (Decline n) = 0
more_owed (Complete n code) = 0
more_owed (GiveUp n) = 0
more_owed (TakeBack n) = 0
more_owed (Close p) = 0
more_owed (Acknowledge m) = 0
more_owed (Stage_change numbers floor) = 0

abbrev pub freed : Change → ℕ
freed Nothing = 0
freed (Begin amount account) = 0
freed (Decline n) = 2
freed (Complete n code) = 1
freed (GiveUp n) = 2
freed (TakeBack n) = 1
freed (Close p) = 0
freed (Acknowledge m) = 0
freed (Stage_change numbers floor) = 0
