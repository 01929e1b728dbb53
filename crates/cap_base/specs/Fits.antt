-- Which item may stand next in a log.
use Rattle.std.specs.Prelude.{ℕ, ◌+◌, Bool, true, ◌&&◌, not, nat_le, ◌==◌, List, [], ◌∷◌, ◌++◌, count_by}
use Rattle.std.specs.List.{list_any}
use Rattle.cap_base.specs.declared.item.Item.{Item}
use Rattle.cap_base.specs.declared.item.Item.TheVariants.{Sale, Void, Cancel, Close}
use Rattle.cap_base.specs.Item.{is_end, is_any_close, is_sale_of}
use Rattle.cap_base.specs.Captured.{captured}

abbrev pub is_number : ℕ → Bool
is_number n = nat_le 1 n && nat_le n 250000

-- the item may stand next in the log
abbrev pub fits : List Item → Item → Bool
fits log (Sale n amount account code) = is_number n && not (list_any (is_end n) log)
fits log (Void n) = is_number n && not (list_any (is_end n) log)
fits log (Cancel n amount) = list_any (is_sale_of n amount) (captured log)
fits log (Close p totals) = (p == count_by is_any_close log + 1) && nat_le p 250000

-- each item fits those before it
abbrev pub all_fit : List Item → List Item → Bool
all_fit log [] = true
all_fit log (item ∷ items) = fits log item && all_fit (log ++ item ∷ []) items
