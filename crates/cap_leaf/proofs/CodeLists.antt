-- The codes of a list, one by one.
use Rattle.std.proofs.Common.{◌≡◌, ℕ, zero, suc, ◌+◌, ◌≤◌, ◌<◌, Bool, true, false, not, List, [], ◌∷◌, length, Bor, get_or, refl, ◌∙◌, ap, arith, rules, Some}
use Rattle.std.specs.Prelude.{nat_le, ◌&&◌}
use Rattle.std.specs.List.{list_all}
use Rattle.std.specs.Str.{bytes_eq}
use Rattle.std.proofs.lemmas.Bool.{cond-true, cond-false}
use Rattle.cap_leaf.specs.declared.kinds.CodeList.{CodeList}
use Rattle.cap_leaf.specs.declared.kinds.CodeList.TheVariants as list
use Rattle.cap_leaf.specs.declared.kinds.Kind.{Kind}
use Rattle.cap_leaf.specs.declared.kinds.Kind.TheVariants.{Caaa001, Caaa002, Caaa003, Caaa004, Caaa005, Caaa006, Caaa007, Caaa008, Caaa009, Caaa010, Caaa011, Caaa012, Caaa013, Caaa014, Caaa015, Catm001, Catm002, Catm003, Catm004}
use Rattle.cap_leaf.specs.Codes.{codes_of, function_codes, texts, text_at, code_at}
use Rattle.cap_leaf.specs.Spelling.{place_in}
use Rattle.cap_leaf.proofs.Moments.{both}

pub text_in : (cs : List (Bor (List ℕ))) (at : ℕ) (d : Bor (List ℕ)) → at < length (texts cs) → text_at (texts cs) at ≡ (get_or cs at d).now
text_in [] at d l = absurd (omega arith)
text_in (c ∷ cs) zero d l = refl
text_in (c ∷ cs) (suc at) d l = text_in cs at d (omega arith)

abbrev pub is_short : List ℕ → Bool
is_short text = nat_le (length text) 4

function_short : (k : Kind) → list_all is_short (function_codes k) ≡ true
function_short Caaa001 = refl
function_short Caaa002 = refl
function_short Caaa003 = refl
function_short Caaa004 = refl
function_short Caaa005 = refl
function_short Caaa006 = refl
function_short Caaa007 = refl
function_short Caaa008 = refl
function_short Caaa009 = refl
function_short Caaa010 = refl
function_short Caaa011 = refl
function_short Caaa012 = refl
function_short Caaa013 = refl
function_short Caaa014 = refl
function_short Caaa015 = refl
function_short Catm001 = refl
function_short Catm002 = refl
function_short Catm003 = refl
function_short Catm004 = refl

-- no code has more than four bytes
list_short : (l : CodeList) → list_all is_short (codes_of l) ≡ true
list_short list.Response = refl
list_short list.Reason = refl
list_short list.Wanted = refl
list_short list.AnySet = refl
list_short list.Act = refl
list_short (list.Protocol d) = refl
list_short (list.Function k) = function_short k

short_at : (ts : List (List ℕ)) (at : ℕ) → list_all is_short ts ≡ true → length (text_at ts at) ≤ 4
short_at [] at e = omega arith
short_at (t ∷ ts) zero e = let s = (both (is_short t) (list_all is_short ts) e).0 in search rules
short_at (t ∷ ts) (suc at) e = short_at ts at (both (is_short t) (list_all is_short ts) e).1

pub few_bytes : (l : CodeList) (at : ℕ) → length (code_at l at) ≤ 4
few_bytes l at = short_at (codes_of l) at (list_short l)

-- ---- no code stands twice in a list

abbrev apart : List ℕ → List (List ℕ) → Bool
apart t [] = true
apart t (u ∷ us) = not (bytes_eq t u) && apart t us

abbrev distinct : List (List ℕ) → Bool
distinct [] = true
distinct (t ∷ ts) = apart t ts && distinct ts

is_not : (b : Bool) → not b ≡ true → b ≡ false
is_not true e = cc
is_not false e = refl

other_at : (t : List ℕ) (ts : List (List ℕ)) (at : ℕ) → apart t ts ≡ true → at < length ts → bytes_eq t (text_at ts at) ≡ false
other_at t [] at e l = absurd (omega arith)
other_at t (u ∷ us) zero e l = is_not (bytes_eq t u) (both (not (bytes_eq t u)) (apart t us) e).0
other_at t (u ∷ us) (suc at) e l = other_at t us at (both (not (bytes_eq t u)) (apart t us) e).1 (omega arith)

same_text : (t : List ℕ) → bytes_eq t t ≡ true
same_text t = search rules

place_of : (ts : List (List ℕ)) (from at : ℕ) → distinct ts ≡ true → at < length ts → place_in ts from (text_at ts at) ≡ Some (from + at)
place_of [] from at e l = absurd (omega arith)
place_of (t ∷ ts) from zero e l = cond-true _ _ _ (same_text t) ∙ ap Some (let same : from ≡ from + 0 = omega arith in same)
place_of (t ∷ ts) from (suc at) e l =
    let d = both (apart t ts) (distinct ts) e in
    cond-false _ _ _ (other_at t ts at d.0 (omega arith)) ∙ (place_of ts (suc from) at d.1 (omega arith) ∙ ap Some (let same : suc from + at ≡ from + suc at = omega arith in same))

function_distinct : (k : Kind) → distinct (function_codes k) ≡ true
function_distinct Caaa001 = refl
function_distinct Caaa002 = refl
function_distinct Caaa003 = refl
function_distinct Caaa004 = refl
function_distinct Caaa005 = refl
function_distinct Caaa006 = refl
function_distinct Caaa007 = refl
function_distinct Caaa008 = refl
function_distinct Caaa009 = refl
function_distinct Caaa010 = refl
function_distinct Caaa011 = refl
function_distinct Caaa012 = refl
function_distinct Caaa013 = refl
function_distinct Caaa014 = refl
function_distinct Caaa015 = refl
function_distinct Catm001 = refl
function_distinct Catm002 = refl
function_distinct Catm003 = refl
function_distinct Catm004 = refl

list_distinct : (l : CodeList) → distinct (codes_of l) ≡ true
list_distinct list.Response = refl
list_distinct list.Reason = refl
list_distinct list.Wanted = refl
list_distinct list.AnySet = refl
list_distinct list.Act = refl
list_distinct (list.Protocol d) = refl
list_distinct (list.Function k) = function_distinct k

pub code_place : (l : CodeList) (at : ℕ) → at < length (codes_of l) → place_in (codes_of l) 0 (code_at l at) ≡ Some at
code_place l at h = place_of (codes_of l) 0 at (list_distinct l) h ∙ ap Some (let same : 0 + at ≡ at = omega arith in same)
