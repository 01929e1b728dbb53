-- What is to be known of a log so far to tell whether one more item fits.
use Rattle.std.specs.Prelude.{ℕ, zero, suc, ◌+◌, ◌-◌, ◌≤◌, Bool, true, false, ◌&&◌, not, nat_le, ◌==◌, List, [], ◌++◌, length, replicate, slice_index_or, slice_set}
use Rattle.cap_base.specs.declared.item.Item.{Item}
use Rattle.cap_base.specs.declared.item.Item.TheVariants.{Sale, Void, Cancel, Close}
use Rattle.cap_base.specs.Fits.{is_number}
use Rattle.cap_entries.specs.declared.sale_end.SaleEnd.{SaleEnd}
use Rattle.cap_entries.specs.declared.sale_end.SaleEnd.TheVariants.{Free, Voided, Sold, Cancelled}

-- how number n stands: at place n - 1
abbrev pub end_of : List SaleEnd → ℕ → SaleEnd
end_of ends zero = Free
end_of ends (suc n) = slice_index_or ends n Free

-- at least n long
abbrev pub padded : List SaleEnd → ℕ → List SaleEnd
padded ends n = ends ++ replicate (n - length ends) Free

abbrev pub set_end : List SaleEnd → ℕ → SaleEnd → List SaleEnd
set_end ends zero end = ends
set_end ends (suc n) end = slice_set (padded ends (n + 1)) n end

abbrev pub is_taken : SaleEnd → Bool
is_taken Free = false
is_taken Voided = true
is_taken (Sold amount) = true
is_taken (Cancelled amount) = true

-- a Sale of this amount has it
abbrev pub was_sold : ℕ → SaleEnd → Bool
was_sold a Free = false
was_sold a Voided = false
was_sold a (Sold amount) = amount == a
was_sold a (Cancelled amount) = amount == a

abbrev pub has_cancel : SaleEnd → Bool
has_cancel Free = false
has_cancel Voided = false
has_cancel (Sold amount) = false
has_cancel (Cancelled amount) = true

-- a Sale of this amount has it, and no Cancel
abbrev pub is_sold : ℕ → SaleEnd → Bool
is_sold a Free = false
is_sold a Voided = false
is_sold a (Sold amount) = amount == a
is_sold a (Cancelled amount) = false

pub record LogSummary : Type 0 where
  pub ends : List SaleEnd
  pub closes : ℕ

-- of an empty log
abbrev pub no_log : LogSummary
no_log = record { ends = []; closes = 0 }

abbrev pub log_after : LogSummary → Item → LogSummary
log_after s (Sale n amount account code) = record s { ends = set_end s.ends n (Sold amount) }
log_after s (Void n) = record s { ends = set_end s.ends n Voided }
log_after s (Cancel n amount) = record s { ends = set_end s.ends n (Cancelled amount) }
log_after s (Close p totals) = record s { closes = p }

abbrev pub log_fits : LogSummary → Item → Bool
log_fits s (Sale n amount account code) = is_number n && not (is_taken (end_of s.ends n))
log_fits s (Void n) = is_number n && not (is_taken (end_of s.ends n))
log_fits s (Cancel n amount) = is_sold amount (end_of s.ends n)
log_fits s (Close p totals) = (p == s.closes + 1) && nat_le p 250000

pub record IsLogSummary (s : LogSummary) : Type 0 where
  pub closes : s.closes ≤ 250000
