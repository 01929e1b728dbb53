-- What the index of a log says of the log: it has the items, and the numbers of further ones may be noted already.
use Rattle.std.specs.Prelude.{◌≡◌, ℕ, ◌+◌, ◌≤◌, true, not, ◌==◌, List, [], ◌∷◌, ◌++◌, Option, Some, None, filter, slice_get, vec_len, vec_capacity}
use Rattle.std.specs.List.{list_any}
use Rattle.std.specs.Ordering.{nat_cmp}
use Rattle.std.specs.BTreeSet.{contains}
use Rattle.std.specs.BTreeMap.{get}
use Rattle.std.proofs.Props.{props}
use Rattle.cap_base.specs.declared.item.Totals.{Totals}
use Rattle.cap_base.specs.declared.item.Item.{Item}
use Rattle.cap_base.specs.declared.item.Item.TheVariants.{Sale, Cancel, Close}
use Rattle.cap_base.specs.Item.{is_end, is_sale_of}
use Rattle.cap_base.specs.Captured.{captured}
use Rattle.cap_base.specs.Fits.{all_fit}
use Rattle.cap_entries.specs.declared.host.HostEntry.{HostEntry}
use Rattle.cap_entries.specs.declared.host.HostEntry.TheVariants.{Took}
use Rattle.cap_entries.specs.Log.{log}
use Rattle.cap_plain.specs.Bounded.{sums_with}
use Rattle.cap_host_index.specs.Places.{places_of, noted_place, captured_places, amount_in}
use Rattle.cap_host_index.specs.Periods.{Periods, nothing}
use Rattle.cap_host_index.specs.declared.index.LogIndex.{LogIndex}

-- the index has the log, and the numbers of the rest are noted, which fits behind it
pub record Tallies (log rest : List Item) (index : LogIndex) : Type 0 where
  pub fit : all_fit [] (log ++ rest) ≡ true
  pub ended : (n : ℕ) → contains nat_cmp index.ended n ≡ list_any (is_end n) (log ++ rest)
  pub captured : (n : ℕ) → get nat_cmp index.captured n ≡ noted_place log rest n
  pub kept : index.kept.items ≡ captured_places log
  pub periods : Periods log index.running index.closed.items

-- the same of a terminal's log, with the entries that hold its items
pub record IsNoted (entries : List HostEntry) (terminal : ℕ) (rest : List Item) (index : LogIndex) : Type 0 where
  pub places : index.places.items ≡ places_of entries terminal
  pub tallies : Tallies (log entries terminal) rest index

-- the index has the terminal's log
abbrev pub IsIndex : List HostEntry → ℕ → LogIndex → Type 0
IsIndex entries terminal index = IsNoted entries terminal [] index

pub index_prop : (entries : List HostEntry) (terminal : ℕ) (index : LogIndex) → IsProp (IsIndex entries terminal index)
index_prop entries terminal index = hlevel props

-- so many more items need no memory
pub record HasRoom (n : ℕ) (index : LogIndex) : Type 0 where
  pub places : vec_len index.places + n ≤ vec_capacity index.places
  pub kept : vec_len index.kept + n ≤ vec_capacity index.kept
  pub closed : vec_len index.closed + n ≤ vec_capacity index.closed

-- entry p holds item m of the log
pub record HoldsItem (entries : List HostEntry) (terminal m p : ℕ) : Type 0 where
  pub item : Item
  pub in_log : slice_get (log entries terminal) m ≡ Some item
  pub in_entries : slice_get entries p ≡ Some (Took terminal item)

-- entry p holds the captured sale with this number
pub record HoldsSale (entries : List HostEntry) (terminal n p : ℕ) : Type 0 where
  pub item : Item
  pub amount : (a : ℕ) → list_any (is_sale_of n a) (captured (log entries terminal)) ≡ (amount_in item == a)
  pub in_entries : slice_get entries p ≡ Some (Took terminal item)

-- entry p holds captured sale k of the log
pub record HoldsCaptured (entries : List HostEntry) (terminal k p : ℕ) : Type 0 where
  pub item : Item
  pub is_captured : slice_get (captured (log entries terminal)) k ≡ Some item
  pub in_entries : slice_get entries p ≡ Some (Took terminal item)

-- the totals of the open period with one item more
abbrev pub running_after : Totals → Item → Totals
running_after running (Close p totals) = nothing
running_after running item = sums_with running item

abbrev pub closed_after : List Totals → Totals → Item → List Totals
closed_after closed running (Close p totals) = closed ++ running ∷ []
closed_after closed running item = closed

-- the places without one
abbrev pub without : Option ℕ → List ℕ → List ℕ
without None places = places
without (Some p) places = filter (λ q. not (q == p)) places

-- the captured places with one item more, which stands at this place; one that is cancelled loses its own
abbrev pub kept_after : ℕ → (ℕ → Option ℕ) → List ℕ → Item → List ℕ
kept_after at place_of kept (Sale n amount account code) = kept ++ at ∷ []
kept_after at place_of kept (Cancel n amount) = without (place_of n) kept
kept_after at place_of kept item = kept
