-- The lines of bytes, and those that have ended, before and behind a line feed.
use Rattle.std.proofs.Common.{◌≡◌, ℕ, ◌<◌, Bool, true, false, List, [], ◌∷◌, ◌++◌, length, refl, ap, ◌∙◌, arith, cond}
use Rattle.std.specs.List.{slice_split, onto_first}
use Rattle.std.specs.Str.Lines.{lines, lines_of_parts, strip_carriage_return}
use Rattle.std.proofs.lemmas.List.Splits.{slice_split_at, slice_split_none}
use Rattle.cap_lines.specs.Lines.{is_feed, ended_lines, ended_of_parts}
use Rattle.cap_lines.specs.Holding.{HasNoFeed}

abbrev IsSome_part : List (List ℕ) → Type 0
IsSome_part parts = (part : List ℕ) × (more : List (List ℕ)) × (parts ≡ part ∷ more)

onto_some : (x : ℕ) (parts : List (List ℕ)) → IsSome_part (onto_first x parts)
onto_some x [] = (x ∷ [], [], refl)
onto_some x (part ∷ parts) = (x ∷ part, parts, refl)

cond_some : (b : Bool) (xs ys : List (List ℕ)) → IsSome_part xs → IsSome_part ys → IsSome_part (cond b xs ys)
cond_some true xs ys p q = p
cond_some false xs ys p q = q

split_some : (xs : List ℕ) → IsSome_part (slice_split is_feed xs)
split_some [] = ([], [], refl)
split_some (x ∷ xs) =
    cond_some (is_feed x) ([] ∷ slice_split is_feed xs) (onto_first x (slice_split is_feed xs))
    ([], slice_split is_feed xs, refl) (onto_some x (slice_split is_feed xs))

lines_of_two : (line : List ℕ) (parts : List (List ℕ)) → IsSome_part parts → lines_of_parts (line ∷ parts) ≡ strip_carriage_return line ∷ lines_of_parts parts
lines_of_two line [] p = absurd (cc (p.2))
lines_of_two line (part ∷ parts) p = refl

ended_of_two : (line : List ℕ) (parts : List (List ℕ)) → IsSome_part parts → ended_of_parts (line ∷ parts) ≡ strip_carriage_return line ∷ ended_of_parts parts
ended_of_two line [] p = absurd (cc (p.2))
ended_of_two line (part ∷ parts) p = refl

-- what stands before the first line feed is the first line
pub lines_at : (part xs : List ℕ) → HasNoFeed part → lines (part ++ 10 ∷ xs) ≡ strip_carriage_return part ∷ lines xs
lines_at part xs none =
    ap lines_of_parts (slice_split_at is_feed part 10 xs none refl) ∙ lines_of_two part (slice_split is_feed xs) (split_some xs)

pub ended_at : (part xs : List ℕ) → HasNoFeed part → ended_lines (part ++ 10 ∷ xs) ≡ strip_carriage_return part ∷ ended_lines xs
ended_at part xs none =
    ap ended_of_parts (slice_split_at is_feed part 10 xs none refl) ∙ ended_of_two part (slice_split is_feed xs) (split_some xs)

-- bytes with no line feed have no ended line, and are one line where there are any
pub ended_none : (xs : List ℕ) → HasNoFeed xs → ended_lines xs ≡ []
ended_none xs none = ap ended_of_parts (slice_split_none is_feed xs none)

lone : (xs : List ℕ) → 0 < length xs → lines_of_parts (xs ∷ []) ≡ xs ∷ []
lone [] some = absurd (omega arith)
lone (x ∷ xs) some = grind arith

pub lines_one : (xs : List ℕ) → HasNoFeed xs → 0 < length xs → lines xs ≡ xs ∷ []
lines_one xs none some = ap lines_of_parts (slice_split_none is_feed xs none) ∙ lone xs some

-- bytes have a line
onto_lines : (x : ℕ) (parts : List (List ℕ)) → 0 < length (lines_of_parts (onto_first x parts))
onto_lines x [] = grind arith
onto_lines x (part ∷ []) = grind arith
onto_lines x (part ∷ next ∷ parts) = grind arith

two_lines : (parts : List (List ℕ)) → IsSome_part parts → 0 < length (lines_of_parts ([] ∷ parts))
two_lines [] p = absurd (cc (p.2))
two_lines (part ∷ parts) p = grind arith

cond_lines : (b : Bool) (xs ys : List (List ℕ)) → 0 < length (lines_of_parts xs) → 0 < length (lines_of_parts ys) → 0 < length (lines_of_parts (cond b xs ys))
cond_lines true xs ys p q = p
cond_lines false xs ys p q = q

pub some_line : (xs : List ℕ) → 0 < length xs → 0 < length (lines xs)
some_line [] some = absurd (omega arith)
some_line (x ∷ xs) some =
    cond_lines (is_feed x) ([] ∷ slice_split is_feed xs) (onto_first x (slice_split is_feed xs))
    (two_lines (slice_split is_feed xs) (split_some xs)) (onto_lines x (slice_split is_feed xs))
