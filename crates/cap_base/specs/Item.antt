-- Items: their sorts, numbers and amounts, and which are the same.
use Rattle.std.specs.Prelude.{ℕ, Bool, true, false, ◌&&◌, ◌==◌, bytes_eq}
use Rattle.cap_base.specs.declared.item.Totals.{Totals}
use Rattle.cap_base.specs.declared.item.Item.{Item}
use Rattle.cap_base.specs.declared.item.Item.TheVariants.{Sale, Void, Cancel, Close}

-- a Sale or Void with this number
abbrev pub is_end : ℕ → Item → Bool
is_end n (Sale k amount account code) = k == n
is_end n (Void k) = k == n
is_end n (Cancel k amount) = false
is_end n (Close p totals) = false

abbrev pub is_cancel : ℕ → Item → Bool
is_cancel n (Sale k amount account code) = false
is_cancel n (Void k) = false
is_cancel n (Cancel k amount) = k == n
is_cancel n (Close p totals) = false

abbrev pub is_close : ℕ → Item → Bool
is_close p (Sale k amount account code) = false
is_close p (Void k) = false
is_close p (Cancel k amount) = false
is_close p (Close q totals) = q == p

abbrev pub is_any_close : Item → Bool
is_any_close (Sale k amount account code) = false
is_any_close (Void k) = false
is_any_close (Cancel k amount) = false
is_any_close (Close q totals) = true

-- a Sale whose number passes a test
abbrev pub is_sale_where : (ℕ → Bool) → Item → Bool
is_sale_where test (Sale k amount account code) = test k
is_sale_where test (Void k) = false
is_sale_where test (Cancel k amount) = false
is_sale_where test (Close q totals) = false

abbrev pub is_sale_of : ℕ → ℕ → Item → Bool
is_sale_of n a (Sale k amount account code) = (k == n) && (amount == a)
is_sale_of n a (Void k) = false
is_sale_of n a (Cancel k amount) = false
is_sale_of n a (Close q totals) = false

-- number and sum of the Sales and of the Cancels
abbrev pub sale_count : Item → ℕ
sale_count (Sale k amount account code) = 1
sale_count (Void k) = 0
sale_count (Cancel k amount) = 0
sale_count (Close q totals) = 0

abbrev pub sale_amount : Item → ℕ
sale_amount (Sale k amount account code) = amount
sale_amount (Void k) = 0
sale_amount (Cancel k amount) = 0
sale_amount (Close q totals) = 0

abbrev pub cancel_count : Item → ℕ
cancel_count (Sale k amount account code) = 0
cancel_count (Void k) = 0
cancel_count (Cancel k amount) = 1
cancel_count (Close q totals) = 0

abbrev pub cancel_amount : Item → ℕ
cancel_amount (Sale k amount account code) = 0
cancel_amount (Void k) = 0
cancel_amount (Cancel k amount) = amount
cancel_amount (Close q totals) = 0

abbrev pub totals_eq : Totals → Totals → Bool
totals_eq a b = (a.sales == b.sales) && (a.sales_sum == b.sales_sum) && (a.cancels == b.cancels) && (a.cancels_sum == b.cancels_sum)

abbrev pub item_eq : Item → Item → Bool
item_eq (Sale n amount account code) (Sale k sum number word) = (n == k) && (amount == sum) && bytes_eq account number && bytes_eq code word
item_eq (Void n) (Void k) = n == k
item_eq (Cancel n amount) (Cancel k sum) = (n == k) && (amount == sum)
item_eq (Close p totals) (Close q sums) = (p == q) && totals_eq totals sums
item_eq _ _ = false
