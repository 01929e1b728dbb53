-- How the items of a journal grow.
use Rattle.std.proofs.Common.{◌≡◌, ℕ, ◌+◌, ◌<◌, List, [], ◌∷◌, ◌++◌, length, take, get_or, refl, ◌∙◌, ap, append_assoc, append-nil}
use Rattle.std.proofs.lemmas.List.{take_more}
use Rattle.cap_base.specs.declared.item.Item.{Item}
use Rattle.cap_entries.specs.declared.terminal.TermEntry.{TermEntry}
use Rattle.cap_entries.specs.declared.terminal.TermEntry.TheVariants.{Setup, Begin, Declined, Completed, Voided, Cancelled, Closed, Acked, Part}
use Rattle.cap_entries.specs.Items.{items_after, items_from, items}
use Rattle.cap_entries.specs.Fronts.{IsPrefixOf, prefix_refl, prefix_front, prefix_trans}

-- items after one entry begin with the items before it
pub items_after_grow : (before : List TermEntry) (items : List Item) (entry : TermEntry) → IsPrefixOf items (items_after before items entry)
items_after_grow before items (Setup setup) = prefix_refl items
items_after_grow before items (Begin n amount account) = prefix_refl items
items_after_grow before items (Declined n) = prefix_refl items
items_after_grow before items (Completed n code) = prefix_front items _
items_after_grow before items (Voided n) = prefix_front items _
items_after_grow before items (Cancelled n) = prefix_front items _
items_after_grow before items (Closed p) = prefix_front items _
items_after_grow before items (Acked m) = prefix_refl items
items_after_grow before items (Part part) = prefix_refl items

pub items_from_grow : (before : List TermEntry) (items : List Item) (entries : List TermEntry) → IsPrefixOf items (items_from before items entries)
items_from_grow before items [] = prefix_refl items
items_from_grow before items (entry ∷ entries) =
    prefix_trans items (items_after before items entry) _ (items_after_grow before items entry)
    (items_from_grow (before ++ entry ∷ []) (items_after before items entry) entries)

pub items_from-append : (before : List TermEntry) (items : List Item) (es fs : List TermEntry) → items_from before items (es ++ fs) ≡ items_from (before ++ es) (items_from before items es) fs
items_from-append before items [] fs = rw append-nil refl
items_from-append before items (e ∷ es) fs =
    items_from-append (before ++ e ∷ []) (items_after before items e) es fs
    ∙ ap (λ l. items_from l (items_from (before ++ e ∷ []) (items_after before items e) es) fs) (append_assoc before (e ∷ []) es)

pub items-append : (es fs : List TermEntry) → items (es ++ fs) ≡ items_from es (items es) fs
items-append es fs = items_from-append [] [] es fs

pub items_grow : (es fs : List TermEntry) → IsPrefixOf (items es) (items (es ++ fs))
items_grow es fs = rw items-append (items_from_grow es (items es) fs)

-- items after one more entry
pub items-push : (before : List TermEntry) (entry : TermEntry) → items (before ++ entry ∷ []) ≡ items_after before (items before) entry
items-push before entry = items-append before (entry ∷ [])

-- items up to the next place
pub items-take : (entries : List TermEntry) (i : ℕ) (d : TermEntry) → i < length entries → items (take (i + 1) entries) ≡ items_after (take i entries) (items (take i entries)) (get_or entries i d)
items-take entries i d h = ap items (take_more entries i d h) ∙ items-push (take i entries) (get_or entries i d)
