-- The first line of a text, in the words of `lines`.
use Rattle.std.proofs.Common.{◌≡◌, ℕ, ◌+◌, ◌<◌, ◌==◌, Bool, true, false, List, [], ◌∷◌, length, take, drop, Some, None, position, refl, ap, sym, ◌∙◌, arith, cond}
use Rattle.std.specs.List.{slice_split, onto_first, position_or_len, position_from}
use Rattle.std.proofs.lemmas.Iterator.Adapters.{position_from-zero}
use Rattle.std.proofs.Math.Seq.{take-length}
use Rattle.std.proofs.lemmas.List.{drop_all, drop-drop}
use Rattle.std.specs.Str.Lines.{lines, lines_of_parts, strip_carriage_return}
use Rattle.std.proofs.lemmas.List.Splits.{slice_split_first}
use Rattle.std.proofs.lemmas.List.Sums.{position_or_len_is}
use Rattle.std.proofs.lemmas.List.Quantifiers.{position-Some}

abbrev is_feed : ℕ → Bool
is_feed b = b == 10

split_at_feed : (xs : List ℕ) (at : ℕ) → position is_feed xs ≡ Some at → slice_split is_feed xs ≡ take at xs ∷ slice_split is_feed (drop (at + 1) xs)
split_at_feed xs at h =
    let f = position-Some is_feed xs at 0 h in
    let le : at < length xs = f.0 in
    let e : position_or_len is_feed xs ≡ at = position_or_len_is is_feed xs at 0 (omega arith) f.2 (λ _. f.1) in
    let lt : position_or_len is_feed xs < length xs = omega arith in
    rw e at (slice_split_first is_feed xs 0 lt)

abbrev IsSome_part : List (List ℕ) → Type 0
IsSome_part parts = (part : List ℕ) × (more : List (List ℕ)) × (parts ≡ part ∷ more)

onto_some : (x : ℕ) (parts : List (List ℕ)) → IsSome_part (onto_first x parts)
onto_some x [] = (x ∷ [], [], refl)
onto_some x (part ∷ parts) = (x ∷ part, parts, refl)

cond_some : (b : Bool) (xs ys : List (List ℕ)) → IsSome_part xs → IsSome_part ys → IsSome_part (cond b xs ys)
cond_some true xs ys p q = p
cond_some false xs ys p q = q

split_some : (xs : List ℕ) → IsSome_part (slice_split is_feed xs)
split_some [] = ([], [], refl)
split_some (x ∷ xs) = cond_some (is_feed x) ([] ∷ slice_split is_feed xs) (onto_first x (slice_split is_feed xs)) ([], slice_split is_feed xs, refl) (onto_some x (slice_split is_feed xs))

lines_of_two : (line : List ℕ) (parts : List (List ℕ)) → IsSome_part parts → lines_of_parts (line ∷ parts) ≡ strip_carriage_return line ∷ lines_of_parts parts
lines_of_two line [] p = absurd (cc (p.2))
lines_of_two line (part ∷ parts) p = refl

pub lines_at_feed : (xs : List ℕ) (at : ℕ) → position is_feed xs ≡ Some at → lines xs ≡ strip_carriage_return (take at xs) ∷ lines (drop (at + 1) xs)
lines_at_feed xs at h = ap lines_of_parts (split_at_feed xs at h) ∙ lines_of_two (take at xs) (slice_split is_feed (drop (at + 1) xs)) (split_some (drop (at + 1) xs))

not_empty : (xs : List ℕ) → 0 < length xs → lines_of_parts (xs ∷ []) ≡ xs ∷ []
not_empty [] h = absurd (omega arith)
not_empty (x ∷ xs) h = grind arith

no_feed_step : (b : Bool) (x i : ℕ) (xs : List ℕ) → cond b (Some i) (position_from is_feed (i + 1) xs) ≡ None
    → (position_from is_feed (i + 1) xs ≡ None → slice_split is_feed xs ≡ xs ∷ []) → cond b ([] ∷ slice_split is_feed xs) (onto_first x (slice_split is_feed xs)) ≡ (x ∷ xs) ∷ []
no_feed_step true x i xs h more = absurd (cc (h))
no_feed_step false x i xs h more = ap (λ (parts : List (List ℕ)). onto_first x parts) (more h)

split_no_feed : (i : ℕ) (xs : List ℕ) → position_from is_feed i xs ≡ None → slice_split is_feed xs ≡ xs ∷ []
split_no_feed i [] h = refl
split_no_feed i (x ∷ xs) h = no_feed_step (is_feed x) x i xs h (split_no_feed (i + 1) xs)

pub lines_no_feed : (xs : List ℕ) → 0 < length xs → position is_feed xs ≡ None → lines xs ≡ xs ∷ []
lines_no_feed xs some h = ap lines_of_parts (split_no_feed 0 xs (sym (position_from-zero is_feed xs) ∙ h)) ∙ not_empty xs some

drop_one_more : (at : ℕ) (text : List ℕ) → drop 1 (drop at text) ≡ drop (at + 1) text
drop_one_more at text = drop-drop 1 at text

pub first_at_feed : (text line rest after stripped : List ℕ) (at : ℕ) → position is_feed text ≡ Some at → line ≡ take at text → rest ≡ drop at text → after ≡ drop 1 rest
    → stripped ≡ strip_carriage_return line → lines text ≡ stripped ∷ lines after
first_at_feed text line rest after stripped at h l r a s =
    let t : after ≡ drop (at + 1) text = a ∙ (ap (λ (w : List ℕ). drop 1 w) r ∙ drop_one_more at text) in
    let u : stripped ≡ strip_carriage_return (take at text) = s ∙ ap strip_carriage_return l in
    rw (t, u) (lines_at_feed text at h)

pub first_no_feed : (text front back : List ℕ) → 0 < length text → position is_feed text ≡ None → front ≡ take (length text) text → back ≡ drop (length text) text → lines text ≡ front ∷ lines back
first_no_feed text front back some h f b =
    let whole : front ≡ text = f ∙ take-length text in
    let none : back ≡ [] = b ∙ drop_all (length text) text (omega arith) in
    rw (whole, none) (lines_no_feed text some h)
