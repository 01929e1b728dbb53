-- What a terminal keeps of its entries in memory, as plain data: one step for each entry.
use Rattle.std.specs.Prelude.{ℕ, ◌+◌, ◌-◌, Bool, true, false, List, [], ◌∷◌, ◌++◌, slice_index_or, slice_set, fold}
use Rattle.cap_base.specs.declared.item.Totals.{Totals}
use Rattle.cap_base.specs.declared.item.Item.{Item}
use Rattle.cap_base.specs.declared.item.Item.TheVariants.{Sale, Void, Cancel, Close}
use Rattle.cap_entries.specs.declared.terminal.TermEntry.{TermEntry}
use Rattle.cap_entries.specs.declared.terminal.TermEntry.TheVariants.{Setup, Begin, Declined as Declined_entry, Completed as Completed_entry, Voided as Voided_entry, Cancelled as Cancelled_entry, Closed, Acked, Part}
use Rattle.cap_terminal.specs.Running.{nothing, counted}
use Rattle.cap_terminal.specs.SetsIndex.{floor_in, sets_after, no_sets}
use Rattle.cap_terminal.specs.declared.change.Change.{Change}
use Rattle.cap_terminal.specs.declared.change.Change.TheVariants.{Nothing, Begin as Begin_change, Decline, Complete, GiveUp, TakeBack, Close as Close_change, Acknowledge, Stage as Stage_change}
use Rattle.cap_terminal.specs.declared.sale_row.Stage.{Stage}
use Rattle.cap_terminal.specs.declared.sale_row.Stage.TheVariants.{Pending, Declined, Completed, Voided, Cancelled}
use Rattle.cap_terminal.specs.declared.sale_row.SaleRow.{SaleRow}
use Rattle.cap_terminal.specs.declared.sets.Sets.{Sets}

-- how many entries a sale may still get that make an item
abbrev pub need_of : Stage → ℕ
need_of Pending = 2
need_of Declined = 0
need_of Completed = 1
need_of Voided = 0
need_of Cancelled = 0

abbrev pub row_need : SaleRow → ℕ
row_need row = need_of row.stage

abbrev pub is_ended : Stage → Bool
is_ended Pending = false
is_ended Declined = true
is_ended Completed = true
is_ended Voided = true
is_ended Cancelled = true

abbrev pub is_done : Stage → Bool
is_done Pending = false
is_done Declined = false
is_done Completed = true
is_done Voided = false
is_done Cancelled = true

abbrev pub is_taken_back : Stage → Bool
is_taken_back Pending = false
is_taken_back Declined = false
is_taken_back Completed = false
is_taken_back Voided = false
is_taken_back Cancelled = true

-- a completed sale counts as one, also a cancelled one; so does a cancelled one, and one that was given up
abbrev pub done_of : Stage → ℕ
done_of Pending = 0
done_of Declined = 0
done_of Completed = 1
done_of Voided = 0
done_of Cancelled = 1

abbrev pub done_count : SaleRow → ℕ
done_count row = done_of row.stage

abbrev pub back_of : Stage → ℕ
back_of Pending = 0
back_of Declined = 0
back_of Completed = 0
back_of Voided = 0
back_of Cancelled = 1

abbrev pub back_count : SaleRow → ℕ
back_count row = back_of row.stage

abbrev pub given_up_of : Stage → ℕ
given_up_of Pending = 0
given_up_of Declined = 0
given_up_of Completed = 0
given_up_of Voided = 1
given_up_of Cancelled = 0

abbrev pub given_up_count : SaleRow → ℕ
given_up_count row = given_up_of row.stage

-- all that the terminal keeps: the sales by number from 1, the items, how many were acknowledged, the totals of the periods, how many sales were
-- completed, cancelled and voided, and the parameter sets
pub record TerminalIndex : Type 0 where
  pub sales : List SaleRow
  pub items : List Item
  pub acked : ℕ
  pub running : Totals
  pub closed : List Totals
  pub completed : ℕ
  pub cancelled : ℕ
  pub voided : ℕ
  pub sets : Sets

abbrev pub blank_row : SaleRow
blank_row = record { amount = 0; account = []; stage = Pending }

-- the sale with this number
abbrev pub row_of : List SaleRow → ℕ → SaleRow
row_of sales n = slice_index_or sales (n - 1) blank_row

abbrev pub at_stage : SaleRow → Stage → SaleRow
at_stage row stage = record { amount = row.amount; account = row.account; stage = stage }

-- the sales where this one has come to this stage
abbrev pub staged : List SaleRow → ℕ → Stage → List SaleRow
staged sales n stage = slice_set sales (n - 1) (at_stage (row_of sales n) stage)

abbrev pub change_of : TermEntry → Change
change_of (Setup settings) = Nothing
change_of (Begin n amount account) = Begin_change amount account
change_of (Declined_entry n) = Decline n
change_of (Completed_entry n code) = Complete n code
change_of (Voided_entry n) = GiveUp n
change_of (Cancelled_entry n) = TakeBack n
change_of (Closed p) = Close_change p
change_of (Acked m) = Acknowledge m
change_of (Part part) = Stage_change (record { version = part.version; part = part.part; parts = part.parts }) (floor_in part.rows)

abbrev pub changed : TerminalIndex → Change → TerminalIndex
changed x Nothing = x
changed x (Begin_change amount account) = record x { sales = x.sales ++ record { amount = amount; account = account; stage = Pending } ∷ [] }
changed x (Decline n) = record x { sales = staged x.sales n Declined }
changed x (Complete n code) = record x {
  sales = staged x.sales n Completed;
  items = x.items ++ Sale n (row_of x.sales n).amount (row_of x.sales n).account code ∷ [];
  running = counted x.running (Sale n (row_of x.sales n).amount (row_of x.sales n).account code);
  completed = x.completed + 1;
}
changed x (GiveUp n) = record x { sales = staged x.sales n Voided; items = x.items ++ Void n ∷ []; running = counted x.running (Void n); voided = x.voided + 1 }
changed x (TakeBack n) = record x {
  sales = staged x.sales n Cancelled;
  items = x.items ++ Cancel n (row_of x.sales n).amount ∷ [];
  running = counted x.running (Cancel n (row_of x.sales n).amount);
  cancelled = x.cancelled + 1;
}
changed x (Close_change p) = record x { items = x.items ++ Close p x.running ∷ []; running = nothing; closed = x.closed ++ x.running ∷ [] }
changed x (Acknowledge m) = record x { acked = m }
changed x (Stage_change numbers floor) = record x { sets = sets_after x.sets numbers floor }

abbrev pub index_after : TerminalIndex → TermEntry → TerminalIndex
index_after x entry = changed x (change_of entry)

abbrev pub no_index : TerminalIndex
no_index = record { sales = []; items = []; acked = 0; running = nothing; closed = []; completed = 0; cancelled = 0; voided = 0; sets = no_sets }

abbrev pub index_of : List TermEntry → TerminalIndex
index_of entries = fold index_after no_index entries
