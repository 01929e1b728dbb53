-- How the stages of sales change.
use Rattle.std.proofs.Common.{◌≡◌, ℕ, zero, suc, ◌+◌, true, false, cond, List, [], ◌∷◌, ◌++◌, length, Option, Some, None, refl, sym, ◌∙◌, ap, subst, ⊎_elim, arith, eqb-true, eq-eqb, add-one}
use Rattle.std.specs.Prelude.{◌==◌, slice_get, slice_set, sum_by}
use Rattle.std.proofs.lemmas.Bool.{cond-true, cond-false, cases_Bool, false≢true, both_ways}
use Rattle.std.proofs.lemmas.Option.{none-some, slice_get_past, slice_get_within, get_or_from_slice_get}
use Rattle.std.proofs.lemmas.List.{length-set}
use Rattle.std.proofs.lemmas.List.Sums.{sum_by-set}
use Rattle.cap_entries.specs.declared.stage.Stage.{Stage}
use Rattle.cap_entries.specs.declared.stage.Stage.TheVariants.{Pending, Declined, Completed, Voided, Cancelled}
use Rattle.cap_entries.specs.Stage.{stage_of, set_stage, items_made, may_end, may_cancel}

get_push_last : (xs : List Stage) (y : Stage) → slice_get (xs ++ y ∷ []) (length xs) ≡ Some y
get_push_last [] y = refl
get_push_last (x ∷ xs) y = get_push_last xs y

get_push_other : (xs : List Stage) (y : Stage) (i : ℕ) → (length xs ≡ i → ⊥) → slice_get (xs ++ y ∷ []) i ≡ slice_get xs i
get_push_other [] y zero ne = absurd (ne refl)
get_push_other [] y (suc i) ne = refl
get_push_other (x ∷ xs) y zero ne = refl
get_push_other (x ∷ xs) y (suc i) ne = get_push_other xs y i (λ e. ne (ap suc e))

get_set_there : (xs : List Stage) (k : ℕ) (y x : Stage) → slice_get xs k ≡ Some x → slice_get (slice_set xs k y) k ≡ Some y
get_set_there [] k y x e = absurd (none-some x e)
get_set_there (u ∷ xs) zero y x e = refl
get_set_there (u ∷ xs) (suc k) y x e = get_set_there xs k y x e

get_set_other : (xs : List Stage) (k : ℕ) (y : Stage) (i : ℕ) → (k ≡ i → ⊥) → slice_get (slice_set xs k y) i ≡ slice_get xs i
get_set_other [] k y i ne = refl
get_set_other (u ∷ xs) zero y zero ne = absurd (ne refl)
get_set_other (u ∷ xs) zero y (suc i) ne = refl
get_set_other (u ∷ xs) (suc k) y zero ne = refl
get_set_other (u ∷ xs) (suc k) y (suc i) ne = get_set_other xs k y i (λ e. ne (ap suc e))

stage_next : (sales : List Stage) (n : ℕ) → stage_of sales (n + 1) ≡ slice_get sales n
stage_next sales n = ap (stage_of sales) (add-one n)

stage_push_other : (sales : List Stage) (y : Stage) (n : ℕ) → (length sales + 1 ≡ n → ⊥) → stage_of (sales ++ y ∷ []) n ≡ stage_of sales n
stage_push_other sales y zero ne = refl
stage_push_other sales y (suc n) ne = get_push_other sales y n (λ e. ne (omega arith))

stage_set_there : (sales : List Stage) (k : ℕ) (y x : Stage) → stage_of sales k ≡ Some x → stage_of (set_stage sales k y) k ≡ Some y
stage_set_there sales zero y x e = absurd (none-some x e)
stage_set_there sales (suc k) y x e = get_set_there sales k y x e

stage_set_other : (sales : List Stage) (k : ℕ) (y : Stage) (n : ℕ) → (k ≡ n → ⊥) → stage_of (set_stage sales k y) n ≡ stage_of sales n
stage_set_other sales zero y n ne = refl
stage_set_other sales (suc k) y zero ne = refl
stage_set_other sales (suc k) y (suc n) ne = get_set_other sales k y n (λ e. ne (ap suc e))

differ : (k n : ℕ) → (k == n) ≡ false → k ≡ n → ⊥
differ k n unequal e = both_ways _ unequal (eq-eqb k n e)

-- one sale more
pub stage-push : (sales : List Stage) (y : Stage) (n : ℕ) → stage_of (sales ++ y ∷ []) n ≡ cond (length sales + 1 == n) (Some y) (stage_of sales n)
stage-push sales y n =
    ⊎_elim
    (λ yes. rw (cond-true (length sales + 1 == n) _ _ yes) (subst (λ j. stage_of (sales ++ y ∷ []) j ≡ Some y) (eqb-true (length sales + 1) n yes) (stage_next (sales ++ y ∷ []) (length sales) ∙ get_push_last sales y)))
    (λ no. rw (cond-false (length sales + 1 == n) _ _ no) (stage_push_other sales y n (differ (length sales + 1) n no)))
    (cases_Bool (length sales + 1 == n))

-- another stage of a sale
pub stage-set : (sales : List Stage) (k : ℕ) (y : Stage) (n : ℕ) (x : Stage) → stage_of sales k ≡ Some x → stage_of (set_stage sales k y) n ≡ cond (k == n) (Some y) (stage_of sales n)
stage-set sales k y n x e =
    ⊎_elim
    (λ yes. rw (cond-true (k == n) _ _ yes) (subst (λ j. stage_of (set_stage sales k y) j ≡ Some y) (eqb-true k n yes) (stage_set_there sales k y x e)))
    (λ no. rw (cond-false (k == n) _ _ no) (stage_set_other sales k y n (differ k n no)))
    (cases_Bool (k == n))

-- no sale stands past the last
pub stage_past : (sales : List Stage) → stage_of sales (length sales + 1) ≡ None
stage_past sales = stage_next sales (length sales) ∙ slice_get_past sales (length sales) (omega arith)

pub length-set_stage : (sales : List Stage) (k : ℕ) (y : Stage) → length (set_stage sales k y) ≡ length sales
length-set_stage sales zero y = refl
length-set_stage sales (suc k) y = length-set sales k y

pub items-set_stage : (sales : List Stage) (k : ℕ) (y x : Stage) → stage_of sales k ≡ Some x → sum_by items_made (set_stage sales k y) + items_made x ≡ sum_by items_made sales + items_made y
items-set_stage sales zero y x e = absurd (none-some x e)
items-set_stage sales (suc k) y x e =
    let at = get_or_from_slice_get sales k x x e in
    ap (λ z. sum_by items_made (slice_set sales k y) + items_made z) (sym at) ∙ sum_by-set items_made sales k y x (slice_get_within sales k x e)

pub ends_pending : (o : Option Stage) → may_end o ≡ true → o ≡ Some Pending
ends_pending None e = absurd (false≢true e)
ends_pending (Some Pending) e = refl
ends_pending (Some Declined) e = absurd (false≢true e)
ends_pending (Some Completed) e = absurd (false≢true e)
ends_pending (Some Voided) e = absurd (false≢true e)
ends_pending (Some Cancelled) e = absurd (false≢true e)

pub cancels_completed : (o : Option Stage) → may_cancel o ≡ true → o ≡ Some Completed
cancels_completed None e = absurd (false≢true e)
cancels_completed (Some Pending) e = absurd (false≢true e)
cancels_completed (Some Declined) e = absurd (false≢true e)
cancels_completed (Some Completed) e = refl
cancels_completed (Some Voided) e = absurd (false≢true e)
cancels_completed (Some Cancelled) e = absurd (false≢true e)
