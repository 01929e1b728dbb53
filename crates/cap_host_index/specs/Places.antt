-- Where the items of a terminal's log stand in a host's journal, and where the captured sales stand in the log. Entries and items count from 0.
use Rattle.std.specs.Prelude.{ℕ, suc, Bool, not, ◌==◌, if◌then◌else◌, List, [], ◌∷◌, ◌++◌, map, Option, Some, None}
use Rattle.std.specs.List.{list_any}
use Rattle.cap_base.specs.declared.item.Item.{Item}
use Rattle.cap_base.specs.declared.item.Item.TheVariants.{Sale, Void, Cancel, Close}
use Rattle.cap_base.specs.Item.{is_cancel, is_sale_where}
use Rattle.cap_entries.specs.declared.host.HostEntry.{HostEntry}
use Rattle.cap_entries.specs.Log.{item_from}

-- the numbers of the entries that hold an item of the terminal, where they count on from the first argument
abbrev pub places_from : ℕ → List HostEntry → ℕ → List ℕ
places_from i [] terminal = []
places_from i (entry ∷ entries) terminal = map (λ _. i) (item_from terminal entry) ++ places_from (suc i) entries terminal

abbrev pub places_of : List HostEntry → ℕ → List ℕ
places_of entries terminal = places_from 0 entries terminal

-- the place of the first Sale with this number
abbrev pub sale_place : ℕ → ℕ → List Item → Option ℕ
sale_place i n [] = None
sale_place i n (item ∷ items) = if is_sale_where (λ k. k == n) item then Some i else sale_place (suc i) n items

-- the places of the Sales whose number passes
abbrev pub sale_places : ℕ → (ℕ → Bool) → List Item → List ℕ
sale_places i test [] = []
sale_places i test (item ∷ items) = if is_sale_where test item then i ∷ sale_places (suc i) test items else sale_places (suc i) test items

-- the place of the sale with this number, where it is captured in the log, or a Sale among the rest
abbrev pub noted_place : List Item → List Item → ℕ → Option ℕ
noted_place log rest n = if list_any (is_cancel n) log then None else sale_place 0 n (log ++ rest)

-- the place of the captured sale with this number
abbrev pub captured_place : List Item → ℕ → Option ℕ
captured_place log n = noted_place log [] n

-- the places of all captured sales
abbrev pub captured_places : List Item → List ℕ
captured_places log = sale_places 0 (λ n. not (list_any (is_cancel n) log)) log

-- the amount of a Sale
abbrev pub amount_in : Item → ℕ
amount_in (Sale n amount account code) = amount
amount_in (Void n) = 0
amount_in (Cancel n amount) = 0
amount_in (Close p totals) = 0
