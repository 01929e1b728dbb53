-- Sums of items fit their type: each amount is at most 999,999,999,999, and there are few of them in a log whose items fit.
use Rattle.std.specs.Prelude.{◌+◌, ◌*◌, ◌≤◌}
use Rattle.cap_base.specs.declared.item.Totals.{Totals}
use Rattle.cap_base.specs.declared.item.Item.{Item}
use Rattle.cap_base.specs.Item.{sale_count, sale_amount, cancel_count, cancel_amount}

-- each sum is at most its number times the largest amount
pub record IsBounded (totals : Totals) : Type 0 where
  pub sales : totals.sales_sum ≤ 999999999999 * totals.sales
  pub cancels : totals.cancels_sum ≤ 999999999999 * totals.cancels

-- the sums with one item more
abbrev pub sums_with : Totals → Item → Totals
sums_with t item =
    record {
      sales = t.sales + sale_count item;
      sales_sum = t.sales_sum + sale_amount item;
      cancels = t.cancels + cancel_count item;
      cancels_sum = t.cancels_sum + cancel_amount item;
    }
