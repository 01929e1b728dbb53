-- Fronts of lists of items.
use Rattle.std.proofs.Common.{◌≡◌, ◌≤◌, List, [], ◌++◌, length, refl, sym, ◌∙◌, ap, append_assoc, append-nil, length-append, arith}
use Rattle.std.proofs.lemmas.List.{nil_from_length}
use Rattle.cap_base.specs.declared.item.Item.{Item}

-- a list of items that begins another
abbrev pub IsPrefixOf : List Item → List Item → Type 0
IsPrefixOf items others = (rest : List Item) × (items ++ rest ≡ others)

pub prefix_refl : (xs : List Item) → IsPrefixOf xs xs
prefix_refl xs = ([], append-nil xs)

pub prefix_front : (xs ys : List Item) → IsPrefixOf xs (xs ++ ys)
prefix_front xs ys = (ys, refl)

pub prefix_trans : (xs ys zs : List Item) → IsPrefixOf xs ys → IsPrefixOf ys zs → IsPrefixOf xs zs
prefix_trans xs ys zs p q = (p.0 ++ q.0, sym (append_assoc xs p.0 q.0) ∙ (ap (λ l. l ++ q.0) p.1 ∙ q.1))

pub prefix_length : (xs ys : List Item) → IsPrefixOf xs ys → length xs ≤ length ys
prefix_length xs ys p = omega (arith, length-append xs p.0, ap length p.1)

-- a front as long as the list is the list
pub prefix_whole : (xs ys : List Item) → IsPrefixOf xs ys → length ys ≤ length xs → xs ≡ ys
prefix_whole xs ys p h =
    let none : p.0 ≡ [] = nil_from_length p.0 (omega (arith, length-append xs p.0, ap length p.1)) in
    sym (append-nil xs) ∙ (ap (λ l. xs ++ l) (sym none) ∙ p.1)
