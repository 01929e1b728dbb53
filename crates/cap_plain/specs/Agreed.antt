-- When a terminal's journal and its log at the host agree.
use Rattle.std.specs.Prelude.{◌≡◌, ℕ, ◌≤◌, List, [], length, count_by}
use Rattle.cap_base.specs.declared.item.Item.{Item}
use Rattle.cap_base.specs.Item.{is_end, is_cancel, is_close}
use Rattle.cap_base.specs.Captured.{captured, totals}
use Rattle.cap_entries.specs.declared.terminal.TermEntry.{TermEntry}
use Rattle.cap_entries.specs.Items.{items}
use Rattle.cap_entries.specs.Acked.{acked}
use Rattle.cap_entries.specs.Fronts.{IsPrefixOf}
use Rattle.cap_plain.specs.Queue.{queue}
use Rattle.cap_plain.specs.KeptSales.{kept_sales}

pub record Agreed (entries : List TermEntry) (log : List Item) : Type 0 where
  -- the log is a front of the terminal's items
  pub front : IsPrefixOf log (items entries)
  -- no sale ends or is cancelled twice, and no period is closed twice
  pub one_end : (n : ℕ) → count_by (is_end n) log ≤ 1
  pub one_cancel : (n : ℕ) → count_by (is_cancel n) log ≤ 1
  pub one_close : (p : ℕ) → count_by (is_close p) log ≤ 1
  -- what is acknowledged is there
  pub reached : acked entries ≤ length log
  -- once the queue is empty, the captures and the totals of each period are the same
  pub capture : queue entries ≡ [] → captured log ≡ kept_sales entries
  pub periods : queue entries ≡ [] → (p : ℕ) → totals log p ≡ totals (items entries) p
