-- How a test of a value that sums up a list follows the list.
use Rattle.std.proofs.Common.{◌≡◌, Bool, true, false, cond, ◌||◌, List, [], ◌∷◌, ◌++◌, sym, ◌∙◌, ap, ⊎_elim}
use Rattle.std.specs.List.{list_any}
use Rattle.std.proofs.Math.Bool.{or-false}
use Rattle.std.proofs.lemmas.Bool.{cond-true, cond-false, cases_Bool}
use Rattle.std.proofs.lemmas.List.Folds.{list_any-append}

-- one element more, which sets the value where it is the same
pub tested : {A O : Type 0} (t : O → Bool) (p : A → Bool) (xs : List A) (x : A) (old new v : O) (same : Bool)
    → t old ≡ list_any p xs → new ≡ cond same v old → (same ≡ true → t v ≡ (t old || p x)) → (same ≡ false → p x ≡ false)
    → t new ≡ list_any p (xs ++ x ∷ [])
tested t p xs x old new v same was is here other =
    let all : list_any p (xs ++ x ∷ []) ≡ (t old || p x) = list_any-append p xs (x ∷ []) ∙ (ap (λ b. list_any p xs || b) (or-false (p x)) ∙ ap (λ b. b || p x) (sym was)) in
    ⊎_elim
    (λ equal. ap t (is ∙ cond-true same _ _ equal) ∙ (here equal ∙ sym all))
    (λ unequal. ap t (is ∙ cond-false same _ _ unequal) ∙ (sym (or-false (t old)) ∙ (ap (λ b. t old || b) (sym (other unequal)) ∙ sym all)))
    (cases_Bool same)

-- one element more, which leaves it
pub untouched : {A : Type 0} (p : A → Bool) (xs : List A) (x : A) (b : Bool) → b ≡ list_any p xs → p x ≡ false → b ≡ list_any p (xs ++ x ∷ [])
untouched p xs x b was none = was ∙ (sym (or-false (list_any p xs)) ∙ (ap (λ c. list_any p xs || c) (sym (ap (λ d. d || false) none)) ∙ sym (list_any-append p xs (x ∷ []))))
