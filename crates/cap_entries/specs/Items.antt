-- The items that a terminal's entries make.
use Rattle.std.specs.Prelude.{List, [], ◌∷◌, ◌++◌}
use Rattle.cap_base.specs.declared.item.Item.{Item}
use Rattle.cap_base.specs.declared.item.Item.TheVariants.{Sale, Void, Cancel, Close}
use Rattle.cap_base.specs.Captured.{period_totals}
use Rattle.cap_entries.specs.declared.terminal.TermEntry.{TermEntry}
use Rattle.cap_entries.specs.declared.terminal.TermEntry.TheVariants.{Completed, Voided, Cancelled, Closed}
use Rattle.cap_entries.specs.Entry.{amount_of, account_of}

-- the items after an entry, where items are those of the entries before it
abbrev pub items_after : List TermEntry → List Item → TermEntry → List Item
items_after before items (Completed n code) = items ++ Sale n (amount_of before n) (account_of before n) code ∷ []
items_after before items (Voided n) = items ++ Void n ∷ []
items_after before items (Cancelled n) = items ++ Cancel n (amount_of before n) ∷ []
items_after before items (Closed p) = items ++ Close p (period_totals items p) ∷ []
items_after before items _ = items

abbrev pub items_from : List TermEntry → List Item → List TermEntry → List Item
items_from before items [] = items
items_from before items (entry ∷ entries) = items_from (before ++ entry ∷ []) (items_after before items entry) entries

-- the items that the entries make
abbrev pub items : List TermEntry → List Item
items entries = items_from [] [] entries
