-- How the sums of items grow.
use Rattle.std.proofs.Common.{◌≡◌, ℕ, ◌+◌, ◌<◌, ◌≤◌, List, [], ◌∷◌, ◌++◌, length, take, get_or, ◌∙◌, ap, arith, take-append-drop, drop}
use Rattle.std.specs.Prelude.{sum_by}
use Rattle.std.proofs.lemmas.List.{take_more}
use Rattle.std.proofs.lemmas.List.Sums.{sum_by-append}
use Rattle.cap_base.specs.declared.item.Totals.{Totals}
use Rattle.cap_base.specs.declared.item.Item.{Item}
use Rattle.cap_base.specs.Item.{sale_count, sale_amount, cancel_count, cancel_amount}
use Rattle.cap_base.specs.Captured.{sums_of}
use Rattle.cap_plain.specs.Bounded.{sums_with}

abbrev totals_of_four : ℕ → ℕ → ℕ → ℕ → Totals
totals_of_four sales sales_sum cancels cancels_sum = record { sales = sales; sales_sum = sales_sum; cancels = cancels; cancels_sum = cancels_sum }

pub same_totals : (t u : Totals) → t.sales ≡ u.sales → t.sales_sum ≡ u.sales_sum → t.cancels ≡ u.cancels → t.cancels_sum ≡ u.cancels_sum → t ≡ u
same_totals t u a b c d =
    ap (λ (x : ℕ). totals_of_four x t.sales_sum t.cancels t.cancels_sum) a
    ∙ ap (λ (x : ℕ). totals_of_four u.sales x t.cancels t.cancels_sum) b
    ∙ ap (λ (x : ℕ). totals_of_four u.sales u.sales_sum x t.cancels_sum) c
    ∙ ap (λ (x : ℕ). totals_of_four u.sales u.sales_sum u.cancels x) d

pub sum-push : (f : Item → ℕ) (items : List Item) (item : Item) → sum_by f (items ++ item ∷ []) ≡ sum_by f items + f item
sum-push f items item = omega (arith, sum_by-append f items (item ∷ []))

pub sums-push : (items : List Item) (item : Item) → sums_of (items ++ item ∷ []) ≡ sums_with (sums_of items) item
sums-push items item =
    same_totals (sums_of (items ++ item ∷ [])) (sums_with (sums_of items) item)
    (sum-push sale_count items item) (sum-push sale_amount items item) (sum-push cancel_count items item) (sum-push cancel_amount items item)

pub sums-take : (items : List Item) (i : ℕ) (d : Item) → i < length items → sums_of (take (i + 1) items) ≡ sums_with (sums_of (take i items)) (get_or items i d)
sums-take items i d h = ap sums_of (take_more items i d h) ∙ sums-push (take i items) (get_or items i d)

-- a front sums up to no more than the whole
pub sum-front : (f : Item → ℕ) (items : List Item) (i : ℕ) → sum_by f (take i items) ≤ sum_by f items
sum-front f items i = omega (arith, sum_by-append f (take i items) (drop i items), ap (sum_by f) (take-append-drop i items))
