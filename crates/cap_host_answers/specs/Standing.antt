-- An item that a log has, or takes, stands in it.
use Rattle.std.proofs.Common.{◌≡◌, ℕ, ◌-◌, zero, suc, Bool, true, false, List, [], ◌∷◌, ◌++◌, Option, Some, None, refl, sym, ◌∙◌, ap, subst, ⊎_elim, eq-eqb, eqb-true}
use Rattle.std.specs.Prelude.{slice_get, ◌==◌}
use Rattle.std.specs.List.{list_any}
use Rattle.std.proofs.lemmas.Bool.{cond_both, and_parts, and_from, or_left, or_right, false≢true}
use Rattle.std.proofs.lemmas.List.Folds.{list_any-append}
use Rattle.cap_base.specs.declared.item.Item.{Item}
use Rattle.cap_base.specs.declared.item.Item.TheVariants.{Sale, Void, Cancel, Close}
use Rattle.cap_base.specs.Item.{is_close, item_eq, totals_eq}
use Rattle.cap_base.specs.Fits.{fits, all_fit}
use Rattle.cap_entries.specs.FitsLaws.{all_fit-append}
use Rattle.cap_host_answers.specs.Answer.{item_at, same_item}
use Rattle.cap_host_answers.specs.Plain.{is_closed_there}

-- an item that is the same as one of the log
found_closed : (log : List Item) (k : ℕ) (item : Item) → same_item (slice_get log k) item ≡ true → is_closed_there log item ≡ true
found_closed log k (Sale n amount account code) e = refl
found_closed log k (Void n) e = refl
found_closed log k (Cancel n amount) e = refl
found_closed [] k (Close p totals) e = absurd (false≢true e)
found_closed (other ∷ log) (suc k) (Close p totals) e = or_right _ _ (found_closed log k (Close p totals) e)
found_closed (Close q sums ∷ log) zero (Close p totals) e = or_left _ _ (and_parts (q == p) (totals_eq sums totals) e).0
found_closed (Sale n amount account code ∷ log) zero (Close p totals) e = absurd (false≢true e)
found_closed (Void n ∷ log) zero (Close p totals) e = absurd (false≢true e)
found_closed (Cancel n amount ∷ log) zero (Close p totals) e = absurd (false≢true e)

pub same_is_there : (log : List Item) (m : ℕ) (item : Item) → same_item (item_at log m) item ≡ true → is_closed_there log item ≡ true
same_is_there log m item e =
    let P : Option Item → Type 0 = λ o. same_item o item ≡ true → is_closed_there log item ≡ true in
    cond_both (m == 0) None (slice_get log (m - 1)) P (λ _ h. absurd (false≢true h)) (λ _ h. found_closed log (m - 1) item h) e

-- an item that the log takes
pub taken_is_there : (log : List Item) (item : Item) → is_closed_there (log ++ item ∷ []) item ≡ true
taken_is_there log (Close p totals) = list_any-append (is_close p) log (Close p totals ∷ []) ∙ or_right _ _ (or_left _ _ (eq-eqb p p refl))
taken_is_there log (Sale n amount account code) = refl
taken_is_there log (Void n) = refl
taken_is_there log (Cancel n amount) = refl

pub taken_fits : (log : List Item) (item : Item) → all_fit [] log ≡ true → fits log item ≡ true → all_fit [] (log ++ item ∷ []) ≡ true
taken_fits log item fit ok = all_fit-append [] log (item ∷ []) fit (and_from _ _ ok refl)
