-- The sales that a terminal's journal keeps: completed, and not cancelled.
use Rattle.std.specs.Prelude.{not, List, [], ◌∷◌, ◌++◌, filter}
use Rattle.cap_base.specs.declared.item.Item.{Item}
use Rattle.cap_base.specs.declared.item.Item.TheVariants.{Sale}
use Rattle.cap_base.specs.Item.{is_sale_where}
use Rattle.cap_entries.specs.declared.terminal.TermEntry.{TermEntry}
use Rattle.cap_entries.specs.declared.terminal.TermEntry.TheVariants.{Completed}
use Rattle.cap_entries.specs.Entry.{amount_of, account_of, is_cancelled}

-- the Sale of a Completed entry
abbrev pub sale_of : List TermEntry → TermEntry → List Item
sale_of before (Completed n code) = Sale n (amount_of before n) (account_of before n) code ∷ []
sale_of before _ = []

-- the Sales of the Completed entries, in order
abbrev pub sales_from : List TermEntry → List TermEntry → List Item
sales_from before [] = []
sales_from before (entry ∷ entries) = sale_of before entry ++ sales_from (before ++ entry ∷ []) entries

-- these, but those that have a Cancelled
abbrev pub kept_sales : List TermEntry → List Item
kept_sales entries = filter (is_sale_where (λ n. not (is_cancelled entries n))) (sales_from [] entries)
