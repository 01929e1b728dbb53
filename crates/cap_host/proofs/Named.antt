-- The place of a name in the host's table is its place in the set-up.
use Rattle.std.proofs.Common.{◌≡◌, ℕ, suc, ◌+◌, Bool, true, false, cond, not, List, [], ◌∷◌, length, Option, Some, None, refl, sym, ◌∙◌, ap, arith}
use Rattle.std.specs.Prelude.{nat_lt, bytes_eq}
use Rattle.std.specs.List.{position, position_or_len}
use Rattle.std.specs.Cmp.Lexicographic.{nat_list_eq_equiv}
use Rattle.std.proofs.lemmas.Bool.{cond-true, cond-false, cases_Bool, lt-ltb}
use Rattle.std.proofs.lemmas.Bool.Decides.{nat_tests}
use Rattle.cap_host_answers.specs.Received.{place_from}

step : (b : Bool) (from at most : ℕ) (rest : Option ℕ) → rest ≡ cond (nat_lt at most) (Some (suc from + at)) None → cond b (Some from) rest ≡ cond (nat_lt (cond (not b) (1 + at) 0) (suc most)) (Some (from + cond (not b) (1 + at) 0)) None
step true from at most rest e = sym (cond-true (nat_lt 0 (suc most)) _ _ (lt-ltb 0 (suc most) (omega arith)) ∙ ap (λ (n : ℕ). Some n) (omega arith))
step false from at most rest e = e ∙ (ap (λ (b : Bool). cond b (Some (suc from + at)) None) (let same : nat_lt at most ≡ nat_lt (1 + at) (suc most) = grind (arith, nat_tests) in same) ∙ ap (λ (n : ℕ). cond (nat_lt (1 + at) (suc most)) (Some n) None) (let same : suc from + at ≡ from + (1 + at) = omega arith in same))

place_found : (from : ℕ) (names : List (List ℕ)) (name : List ℕ) → place_from from names name ≡ cond (nat_lt (position_or_len (bytes_eq name) names) (length names)) (Some (from + position_or_len (bytes_eq name) names)) None
place_found from [] name = refl
place_found from (other ∷ others) name =
    ap (λ (b : Bool). cond b (Some from) (place_from (suc from) others name)) (nat_list_eq_equiv.symm other name)
    ∙ step (bytes_eq name other) from (position_or_len (bytes_eq name) others) (length others) (place_from (suc from) others name) (place_found (suc from) others name)

pub place_is : (names : List (List ℕ)) (name : List ℕ) → position (bytes_eq name) names ≡ place_from 0 names name
place_is names name = sym (place_found 0 names name ∙ ap (λ (n : ℕ). cond (nat_lt (position_or_len (bytes_eq name) names) (length names)) (Some n) None) (omega arith))
