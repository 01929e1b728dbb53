-- How opening goes on from entry to entry, and from name to name.
use Rattle.std.proofs.Common.{◌≡◌, ℕ, zero, suc, ◌+◌, ◌≤◌, ◌<◌, Bool, true, false, not, cond, List, [], ◌∷◌, ◌++◌, length, take, drop, get_or, Option, Some, None, refl, sym, ◌∙◌, ap, ⊎_elim, arith}
use Rattle.std.specs.Prelude.{◌||◌, ◌&&◌, slice_get, bytes_eq}
use Rattle.std.specs.List.{list_any}
use Rattle.std.specs.Cmp.Lexicographic.{nat_list_eq_equiv}
use Rattle.std.proofs.lemmas.Bool.{cond-false, false≢true, and_parts, not-true, cases_Bool, or_left, or_right}
use Rattle.std.proofs.lemmas.List.{take_more, drop_more, length-take-le}
use Rattle.std.proofs.lemmas.Option.{get_or_from_slice_get, slice_get_within}
use Rattle.cap_entries.specs.declared.host.HostEntry.{HostEntry}
use Rattle.cap_entries.specs.Lists.{are_distinct}
use Rattle.cap_entries.specs.HostAllowed.{host_allowed}
use Rattle.cap_entries.specs.FirstNotAllowed.{first_host_refused, first_host_not_allowed}

-- the list up to the next place
pub take_at : (entries : List HostEntry) (i : ℕ) (entry : HostEntry) → slice_get entries i ≡ Some entry → take (i + 1) entries ≡ take i entries ++ entry ∷ []
take_at entries i entry at = take_more entries i entry (slice_get_within entries i entry at) ∙ ap (λ (e : HostEntry). take i entries ++ e ∷ []) (get_or_from_slice_get entries i entry entry at)

pub length_at : (entries : List HostEntry) (i : ℕ) (entry : HostEntry) → slice_get entries i ≡ Some entry → length (take i entries) ≡ i
length_at entries i entry at = let within : i < length entries = slice_get_within entries i entry at in length-take-le i entries (omega (arith, within))

first_of_some : (entries : List HostEntry) (i : ℕ) → i < length entries → first_host_not_allowed entries ≡ first_host_refused [] entries
first_of_some [] i h = let no' : ⊥ = omega (arith, h) in absurd no'
first_of_some (first ∷ rest) i h = refl

-- what is refused at a place
pub refused_at : (entries : List HostEntry) (i : ℕ) (entry : HostEntry) → slice_get entries i ≡ Some entry → host_allowed (take i entries) entry ≡ false
    → first_host_refused (take i entries) (drop i entries) ≡ first_host_refused [] entries → first_host_not_allowed entries ≡ Some i
refused_at entries i entry at refused rest =
    first_of_some entries i (slice_get_within entries i entry at)
    ∙ (sym rest
    ∙ (ap (λ (l : List HostEntry). first_host_refused (take i entries) l) (drop_more entries i entry (slice_get_within entries i entry at) ∙ ap (λ (e : HostEntry). e ∷ drop (i + 1) entries) (get_or_from_slice_get entries i entry entry at))
    ∙ (cond-false (host_allowed (take i entries) entry) _ _ refused ∙ ap (λ (n : ℕ). Some n) (length_at entries i entry at))))

none_at : {X : Type 0} (p : X → Bool) (xs : List X) (i : ℕ) (d : X) → list_any p xs ≡ false → i < length xs → p (get_or xs i d) ≡ false
none_at p [] i d none h = let no' : ⊥ = omega (arith, h) in absurd no'
none_at p (x ∷ xs) zero d none h = ⊎_elim (λ yes. absurd (false≢true (sym none ∙ or_left (p x) (list_any p xs) yes))) (λ no'. no') (cases_Bool (p x))
none_at p (x ∷ xs) (suc i) d none h =
    none_at p xs i d (⊎_elim (λ yes. absurd (false≢true (sym none ∙ or_right (p x) (list_any p xs) yes))) (λ no'. no') (cases_Bool (list_any p xs))) (omega (arith, h))

-- of names that differ the next one is not among those before it
pub distinct_next : (names : List (List ℕ)) (i : ℕ) (d : List ℕ) → are_distinct names ≡ true → i < length names → list_any (bytes_eq (get_or names i d)) (take i names) ≡ false
distinct_next [] i d ok h = let no' : ⊥ = omega (arith, h) in absurd no'
distinct_next (first ∷ rest) zero d ok h = refl
distinct_next (first ∷ rest) (suc i) d ok h =
    let parts = and_parts (not (list_any (bytes_eq first) rest)) (are_distinct rest) ok in
    let within : i < length rest = omega (arith, h) in
    ap (λ (b : Bool). b || list_any (bytes_eq (get_or rest i d)) (take i rest)) (nat_list_eq_equiv.symm (get_or rest i d) first ∙ none_at (bytes_eq first) rest i d (not-true (list_any (bytes_eq first) rest) parts.0) within)
    ∙ distinct_next rest i d parts.1 within

-- one name more
pub names_push : (names keys : List (List ℕ)) (i : ℕ) (name : List ℕ) → are_distinct names ≡ true → i < length names → name ≡ get_or names i name → keys ≡ take i names
    → cond (list_any (bytes_eq name) keys) keys (keys ++ name ∷ []) ≡ take (i + 1) names
names_push names keys i name ok within is so_far =
    let fresh : list_any (bytes_eq name) (take i names) ≡ false = ap (λ (n : List ℕ). list_any (bytes_eq n) (take i names)) is ∙ distinct_next names i name ok within in
    ap (λ (l : List (List ℕ)). cond (list_any (bytes_eq name) l) l (l ++ name ∷ [])) so_far
    ∙ (cond-false (list_any (bytes_eq name) (take i names)) _ _ fresh ∙ (ap (λ (n : List ℕ). take i names ++ n ∷ []) is ∙ sym (take_more names i name within)))
