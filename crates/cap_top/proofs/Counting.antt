-- A tally has the number of what came, and the number of its lines.
use Rattle.std.proofs.Common.{◌≡◌, ℕ, ◌+◌, ◌≤◌, ◌<◌, Bool, true, false, cond, List, [], ◌∷◌, length, drop, refl, ap, ◌∙◌, arith, rules}
use Rattle.std.specs.Prelude.{fold, ◌==◌, if◌then◌else◌}
use Rattle.std.specs.List.{slice_split, onto_first}
use Rattle.std.specs.Str.Lines.{lines, lines_of_parts}
use Rattle.std.proofs.lemmas.List.Splits.{length-slice_split}
use Rattle.cap_top.specs.declared.tally.Tally.{Tally}
use Rattle.cap_top.specs.Tally.{nothing, with_byte, tally_of}

-- how many bytes begin a line
abbrev begins : Bool → List ℕ → ℕ
begins s [] = 0
begins s (b ∷ bs) = (if s then 1 else 0) + begins (b == 10) bs

abbrev parts : List ℕ → List (List ℕ)
parts bs = slice_split (λ b. b == 10) bs

onto : (c : ℕ) (ps : List (List ℕ)) → length (lines_of_parts (onto_first c ps)) ≡ 1 + length (lines_of_parts (drop 1 ps))
onto c [] = refl
onto c (p ∷ []) = search rules
onto c (p ∷ q ∷ more) = search rules

drop_onto : (c : ℕ) (ps : List (List ℕ)) → drop 1 (onto_first c ps) ≡ drop 1 ps
drop_onto c [] = refl
drop_onto c (p ∷ ps) = refl

one_more : (ps : List (List ℕ)) → 0 < length ps → length (lines_of_parts ([] ∷ ps)) ≡ 1 + length (lines_of_parts ps)
one_more [] h = absurd (omega arith)
one_more (p ∷ ps) h = search rules

some_part : (bs : List ℕ) → 0 < length (parts bs)
some_part bs = omega (arith, length-slice_split (λ b. b == 10) bs)

begun_by : (t : Bool) (b : ℕ) (bs : List ℕ) → length (lines_of_parts (parts bs)) ≡ begins true bs → length (lines_of_parts (drop 1 (parts bs))) ≡ begins false bs
    → length (lines_of_parts (cond t ([] ∷ parts bs) (onto_first b (parts bs)))) ≡ 1 + begins t bs
begun_by true b bs h g = one_more (parts bs) (some_part bs) ∙ ap (λ n. 1 + n) h
begun_by false b bs h g = onto b (parts bs) ∙ ap (λ n. 1 + n) g

gone_on : (t : Bool) (b : ℕ) (bs : List ℕ) → length (lines_of_parts (parts bs)) ≡ begins true bs → length (lines_of_parts (drop 1 (parts bs))) ≡ begins false bs
    → length (lines_of_parts (drop 1 (cond t ([] ∷ parts bs) (onto_first b (parts bs))))) ≡ 0 + begins t bs
gone_on true b bs h g = omega (arith, h)
gone_on false b bs h g = ap (λ (ps : List (List ℕ)). length (lines_of_parts ps)) (drop_onto b (parts bs)) ∙ omega (arith, g)

mutual
  lines_begin : (bs : List ℕ) → length (lines_of_parts (parts bs)) ≡ begins true bs
  lines_begin [] = refl
  lines_begin (b ∷ bs) = begun_by (b == 10) b bs (lines_begin bs) (lines_go_on bs)

  lines_go_on : (bs : List ℕ) → length (lines_of_parts (drop 1 (parts bs))) ≡ begins false bs
  lines_go_on [] = refl
  lines_go_on (b ∷ bs) = gone_on (b == 10) b bs (lines_begin bs) (lines_go_on bs)

begun_with : (s : Bool) (n m : ℕ) → (if s then n + 1 else n) + m ≡ n + ((if s then 1 else 0) + m)
begun_with true n m = omega arith
begun_with false n m = omega arith

folded : (t : Tally) (bs : List ℕ) → (fold with_byte t bs).lines ≡ t.lines + begins t.at_start bs
folded t [] = omega arith
folded t (b ∷ bs) = folded (with_byte t b) bs ∙ begun_with t.at_start t.lines (begins (b == 10) bs)

few : (s : Bool) (bs : List ℕ) → begins s bs ≤ length bs
few s [] = omega arith
few true (b ∷ bs) = omega (arith, few (b == 10) bs)
few false (b ∷ bs) = omega (arith, few (b == 10) bs)

pub bytes-fold : (t : Tally) (bs : List ℕ) → (fold with_byte t bs).bytes ≡ t.bytes + length bs
bytes-fold t [] = omega arith
bytes-fold t (b ∷ bs) = omega (arith, bytes-fold (with_byte t b) bs)

pub lines-fold : (t : Tally) (bs : List ℕ) → (fold with_byte t bs).lines ≤ t.lines + length bs
lines-fold t bs = omega (arith, folded t bs, few t.at_start bs)

pub bytes-tally_of : (bs : List ℕ) → (tally_of bs).bytes ≡ length bs
bytes-tally_of bs = omega (arith, bytes-fold nothing bs)

pub lines-tally_of : (bs : List ℕ) → (tally_of bs).lines ≡ length (lines bs)
lines-tally_of bs = omega (arith, folded nothing bs, lines_begin bs)
