-- The entries that hold items are one group, for which there is room.
use Rattle.std.proofs.Common.{◌≡◌, ℕ, ◌-◌, ◌+◌, ◌≤◌, ◌<◌, Bool, true, List, [], ◌∷◌, ◌++◌, length, map, length-append, Option, Some, refl, sym, ◌∙◌, ap, subst, arith, le-leb, lt-ltb}
use Rattle.std.specs.Prelude.{◌&&◌, nat_le, nat_lt, option_and_then, IsSome, IsTrue, All, sum}
use Rattle.std.specs.List.{list_all}
use Rattle.std.proofs.lemmas.List.{length-map}
use Rattle.std.proofs.lemmas.Bool.{cond-true, and_parts, and_from}
use Rattle.cap_base.specs.declared.item.Item.{Item}
use Rattle.cap_journal.specs.declared.spare.Spare.{Spare}
use Rattle.cap_journal.specs.Spare.{less, less_one, Suffices}
use Rattle.cap_entries.specs.declared.host.HostEntry.{HostEntry}
use Rattle.cap_entries.specs.declared.host.HostEntry.TheVariants.{Took}
use Rattle.cap_entries.specs.RecordParts.{is_byte}
use Rattle.cap_entries.specs.HostRecord.{item_fits, host_fits, host_record, is_took}

takes_small : (spare : Spare) (size : ℕ) → 1 ≤ spare.small → size ≤ 72 → less_one size spare ≡ Some (record { small = spare.small - 1; rows = spare.rows })
takes_small spare size some small = cond-true (nat_le size 72 && nat_lt 0 spare.small) _ _ (and_from (nat_le size 72) (nat_lt 0 spare.small) (le-leb size 72 small) (lt-ltb 0 spare.small some))

pub group_suffices : ((entry : HostEntry) → is_took entry ≡ true → host_fits entry ≡ true → length (host_record entry) ≤ 72)
    → (added : List HostEntry) (spare : Spare) → list_all is_took added ≡ true → list_all host_fits added ≡ true → length added ≤ spare.small → Suffices (map (λ entry. length (host_record entry)) added) spare
group_suffices law [] spare took fits room = refl
group_suffices law (entry ∷ added) spare took fits room =
    let t = and_parts (is_took entry) (list_all is_took added) took in
    let f = and_parts (host_fits entry) (list_all host_fits added) fits in
    let left : Spare = record { small = spare.small - 1; rows = spare.rows } in
    subst (λ (o : Option Spare). IsSome (option_and_then (less (map (λ entry. length (host_record entry)) added)) o))
    (sym (takes_small spare (length (host_record entry)) (omega (arith, room)) (law entry t.0 f.0)))
    (group_suffices law added left t.1 f.1 (omega (arith, room)))

pub took_took : (place : ℕ) (items : List Item) → list_all is_took (map (Took place) items) ≡ true
took_took place [] = refl
took_took place (item ∷ items) = took_took place items

pub took_fit : (place : ℕ) (items : List Item) → is_byte place ≡ true → list_all item_fits items ≡ true → list_all host_fits (map (Took place) items) ≡ true
took_fit place [] byte fits = refl
took_fit place (item ∷ items) byte fits =
    let parts = and_parts (item_fits item) (list_all item_fits items) fits in
    and_from (host_fits (Took place item)) _ (and_from (is_byte place) (item_fits item) byte parts.0) (took_fit place items byte parts.1)

-- how many entries there are with the group
pub grown_length : (new old group : List HostEntry) (place : ℕ) (items : List Item) → new ≡ old ++ group → group ≡ map (Took place) items → length new ≡ length old + length items
grown_length new old group place items grown is =
    ap (λ (l : List HostEntry). length l) grown ∙ (length-append old group ∙ ap (λ (n : ℕ). length old + n) (ap (λ (l : List HostEntry). length l) is ∙ length-map items (Took place)))

pub group_length : (group : List HostEntry) (place : ℕ) (items : List Item) → group ≡ map (Took place) items → length group ≡ length items
group_length group place items is = ap (λ (l : List HostEntry). length l) is ∙ length-map items (Took place)
