-- An item of a log stands in the journal's entry that the places name.
use Rattle.std.proofs.Common.{◌≡◌, ℕ, zero, suc, ◌+◌, ◌-◌, ◌≤◌, List, [], ◌∷◌, ◌++◌, length, map, Some, refl, sym, ◌∙◌, ap, subst, ⊎_elim, append_assoc, append-nil, arith, eqb-true, length-append}
use Rattle.std.specs.Prelude.{◌==◌, slice_get}
use Rattle.std.proofs.lemmas.Bool.{cond-true, cond-false, cases_Bool}
use Rattle.std.proofs.lemmas.List.{length-map}
use Rattle.std.proofs.lemmas.Option.{none-some, same_Some}
use Rattle.cap_base.specs.declared.item.Item.{Item}
use Rattle.cap_entries.specs.declared.host.HostEntry.{HostEntry}
use Rattle.cap_entries.specs.declared.host.HostEntry.TheVariants.{Setup, Took, Published}
use Rattle.cap_entries.specs.Log.{item_from, log}
use Rattle.cap_host_index.specs.Places.{places_from, places_of}

pub length-places : (i : ℕ) (entries : List HostEntry) (terminal : ℕ) → length (places_from i entries terminal) ≡ length (log entries terminal)
length-places i [] terminal = refl
length-places i (entry ∷ entries) terminal =
    length-append (map (λ _. i) (item_from terminal entry)) (places_from (suc i) entries terminal)
    ∙ (ap (λ n. n + length (places_from (suc i) entries terminal)) (length-map (item_from terminal entry) (λ _. i))
    ∙ (ap (λ n. length (item_from terminal entry) + n) (length-places (suc i) entries terminal)
    ∙ sym (length-append (item_from terminal entry) (log entries terminal))))

pub places-append : (i : ℕ) (es fs : List HostEntry) (terminal : ℕ) → places_from i (es ++ fs) terminal ≡ places_from i es terminal ++ places_from (i + length es) fs terminal
places-append i [] fs terminal = ap (λ j. places_from j fs terminal) (let same : i ≡ i + 0 = omega arith in same)
places-append i (e ∷ es) fs terminal =
    ap (λ l. map (λ _. i) (item_from terminal e) ++ l) (places-append (suc i) es fs terminal)
    ∙ (sym (append_assoc (map (λ _. i) (item_from terminal e)) (places_from (suc i) es terminal) (places_from (suc i + length es) fs terminal))
    ∙ ap (λ j. (map (λ _. i) (item_from terminal e) ++ places_from (suc i) es terminal) ++ places_from j fs terminal) (let same : suc i + length es ≡ i + suc (length es) = omega arith in same))

-- one entry more
pub places-push : (entries : List HostEntry) (entry : HostEntry) (terminal : ℕ) → places_of (entries ++ entry ∷ []) terminal ≡ places_of entries terminal ++ map (λ _. length entries) (item_from terminal entry)
places-push entries entry terminal =
    places-append 0 entries (entry ∷ []) terminal
    ∙ (ap (λ l. places_of entries terminal ++ l) (append-nil (map (λ _. 0 + length entries) (item_from terminal entry)))
    ∙ ap (λ j. places_of entries terminal ++ map (λ _. j) (item_from terminal entry)) (let same : 0 + length entries ≡ length entries = omega arith in same))

-- the entry at this place, where places count on from i
IsThere : ℕ → List HostEntry → ℕ → ℕ → Item → Type 0
IsThere i entries terminal p item = (i ≤ p) × (slice_get entries (p - i) ≡ Some (Took terminal item))

one_back : (p i : ℕ) → suc i ≤ p → p - i ≡ suc (p - suc i)
one_back p i h = omega (arith, h)

later_there : (i : ℕ) (entry : HostEntry) (entries : List HostEntry) (terminal p : ℕ) (item : Item) → IsThere (suc i) entries terminal p item → IsThere i (entry ∷ entries) terminal p item
unfolding IsThere
later_there i entry entries terminal p item h = (omega (arith, h.0), ap (λ k. slice_get (entry ∷ entries) k) (one_back p i h.0) ∙ h.1)

here_there : (i : ℕ) (entries : List HostEntry) (terminal p : ℕ) (item : Item) → i ≡ p → IsThere i (Took terminal item ∷ entries) terminal p item
unfolding IsThere
here_there i entries terminal p item e = (omega (arith, e), ap (λ k. slice_get (Took terminal item ∷ entries) k) (let none : p - i ≡ 0 = omega (arith, e) in none))

-- the first entry is the terminal's: it holds the first item, or the next ones hold the others
mine : (i : ℕ) (entries : List HostEntry) (terminal p : ℕ) (item : Item) (place : ℕ) (other : Item) → place ≡ terminal
    → ((m : ℕ) → slice_get (places_from (suc i) entries terminal) m ≡ Some p → slice_get (log entries terminal) m ≡ Some item → IsThere (suc i) entries terminal p item)
    → (m : ℕ) → slice_get (i ∷ places_from (suc i) entries terminal) m ≡ Some p → slice_get (other ∷ log entries terminal) m ≡ Some item → IsThere i (Took place other ∷ entries) terminal p item
mine i entries terminal p item place other same later zero c d =
    subst (λ t. IsThere i (Took t other ∷ entries) terminal p item) (sym same)
    (subst (λ x. IsThere i (Took terminal x ∷ entries) terminal p item) (sym (same_Some other item d)) (here_there i entries terminal p item (same_Some i p c)))
mine i entries terminal p item place other same later (suc m) c d = later_there i (Took place other) entries terminal p item (later m c d)

there : (i : ℕ) (entries : List HostEntry) (terminal m p : ℕ) (item : Item) → slice_get (places_from i entries terminal) m ≡ Some p → slice_get (log entries terminal) m ≡ Some item → IsThere i entries terminal p item
there i [] terminal m p item a b = absurd (none-some p a)
there i (Setup settings ∷ entries) terminal m p item a b = later_there i (Setup settings) entries terminal p item (there (suc i) entries terminal m p item a b)
there i (Published version rows ∷ entries) terminal m p item a b = later_there i (Published version rows) entries terminal p item (there (suc i) entries terminal m p item a b)
there i (Took place other ∷ entries) terminal m p item a b =
    ⊎_elim
    (λ equal.
    mine i entries terminal p item place other (eqb-true place terminal equal) (λ k c d. there (suc i) entries terminal k p item c d) m
    (sym (ap (λ (l : List Item). slice_get (map (λ _. i) l ++ places_from (suc i) entries terminal) m) (cond-true (place == terminal) _ _ equal)) ∙ a)
    (sym (ap (λ (l : List Item). slice_get (l ++ log entries terminal) m) (cond-true (place == terminal) _ _ equal)) ∙ b))
    (λ unequal.
    later_there i (Took place other) entries terminal p item
    (there (suc i) entries terminal m p item
    (sym (ap (λ (l : List Item). slice_get (map (λ _. i) l ++ places_from (suc i) entries terminal) m) (cond-false (place == terminal) _ _ unequal)) ∙ a)
    (sym (ap (λ (l : List Item). slice_get (l ++ log entries terminal) m) (cond-false (place == terminal) _ _ unequal)) ∙ b)))
    (cases_Bool (place == terminal))

-- item m of a log is the one of the entry that place m names
pub place_there : (entries : List HostEntry) (terminal m p : ℕ) (item : Item) → slice_get (places_of entries terminal) m ≡ Some p → slice_get (log entries terminal) m ≡ Some item → slice_get entries p ≡ Some (Took terminal item)
unfolding IsThere
place_there entries terminal m p item a b = ap (λ k. slice_get entries k) (let same : p ≡ p - 0 = omega arith in same) ∙ (there 0 entries terminal m p item a b).1
