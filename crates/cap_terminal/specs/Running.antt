-- The totals of the period that is open, item by item.
use Rattle.std.specs.Prelude.{ℕ, ◌+◌, ◌-◌, ◌&&◌, nat_le, if◌then◌else◌, List, length, Option, Some, None, slice_index_or}
use Rattle.cap_base.specs.declared.item.Totals.{Totals}
use Rattle.cap_base.specs.declared.item.Item.{Item}
use Rattle.cap_base.specs.declared.item.Item.TheVariants.{Sale, Void, Cancel, Close}

abbrev pub nothing : Totals
nothing = record { sales = 0; sales_sum = 0; cancels = 0; cancels_sum = 0 }

-- totals with one more item of the period
abbrev pub counted : Totals → Item → Totals
counted t (Sale n amount account code) = record { sales = t.sales + 1; sales_sum = t.sales_sum + amount; cancels = t.cancels; cancels_sum = t.cancels_sum }
counted t (Void n) = t
counted t (Cancel n amount) = record { sales = t.sales; sales_sum = t.sales_sum; cancels = t.cancels + 1; cancels_sum = t.cancels_sum + amount }
counted t (Close p totals) = t

-- the totals of period p, among those of the closed periods
abbrev pub closed_at : List Totals → ℕ → Option Totals
closed_at closed p = if nat_le 1 p && nat_le p (length closed) then Some (slice_index_or closed (p - 1) nothing) else None
