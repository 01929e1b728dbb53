-- What is captured in a log, and the totals of a period.
use Rattle.std.specs.Prelude.{ℕ, ◌-◌, not, ◌==◌, if◌then◌else◌, List, [], ◌∷◌, Option, Some, None, sum_by, filter}
use Rattle.std.specs.List.{list_any}
use Rattle.cap_base.specs.declared.item.Totals.{Totals}
use Rattle.cap_base.specs.declared.item.Item.{Item}
use Rattle.cap_base.specs.Item.{is_cancel, is_close, is_sale_where, sale_count, sale_amount, cancel_count, cancel_amount}

-- the Sales of a log whose number no Cancel of it names
abbrev pub captured : List Item → List Item
captured log = filter (is_sale_where (λ n. not (list_any (is_cancel n) log))) log

abbrev pub sums_of : List Item → Totals
sums_of items =
    record {
      sales = sum_by sale_count items;
      sales_sum = sum_by sale_amount items;
      cancels = sum_by cancel_count items;
      cancels_sum = sum_by cancel_amount items;
    }

-- what stands behind the first Close p
abbrev pub after_close : ℕ → List Item → List Item
after_close p [] = []
after_close p (item ∷ items) = if is_close p item then items else after_close p items

-- what stands before the first Close p
abbrev pub before_close : ℕ → List Item → List Item
before_close p [] = []
before_close p (item ∷ items) = if is_close p item then [] else item ∷ before_close p items

-- what stands before Close p and after Close p - 1, from the start for p = 1
abbrev pub period_items : List Item → ℕ → List Item
period_items log p = if p == 1 then before_close p log else after_close (p - 1) (before_close p log)

-- the totals of period p, also where the period is not closed yet
abbrev pub period_totals : List Item → ℕ → Totals
period_totals log p = sums_of (period_items log p)

abbrev pub totals : List Item → ℕ → Option Totals
totals log p = if list_any (is_close p) log then Some (period_totals log p) else None
