-- In a log whose items fit one after another nothing stands twice.
use Rattle.std.proofs.Common.{◌≡◌, ℕ, ◌+◌, ◌<◌, ◌≤◌, Bool, true, false, cond, not, ◌&&◌, ◌||◌, List, [], ◌∷◌, ◌++◌, refl, ◌∙◌, subst, ⊎_elim, append_assoc, append-nil, arith, ne_eqb, eqb-true}
use Rattle.std.specs.Prelude.{count_by, filter, ◌==◌, nat_le}
use Rattle.std.specs.List.{list_any, fold}
use Rattle.std.proofs.lemmas.Bool.{cases_Bool, false≢true, and_parts, or_parts, or_cases, not-true}
use Rattle.std.proofs.lemmas.List.Sums.{fold_push}
use Rattle.cap_base.specs.declared.item.Item.{Item}
use Rattle.cap_base.specs.declared.item.Item.TheVariants.{Sale, Void, Cancel, Close}
use Rattle.cap_base.specs.Item.{is_end, is_cancel, is_close, is_any_close, is_sale_where, is_sale_of}
use Rattle.cap_base.specs.Captured.{totals}
use Rattle.cap_base.specs.Fits.{is_number, fits, all_fit}
use Rattle.cap_entries.specs.Log.{log}

-- each item that fits those before it: a sale ends once, is cancelled once, a period is closed once
count_push : (p : Item → Bool) (xs : List Item) (x : Item) → count_by p (xs ++ x ∷ []) ≡ count_by p xs + cond (p x) 1 0
count_push p xs x = fold_push (λ a y. a + cond (p y) 1 0) 0 xs x

count_none_from : (p : Item → Bool) (a : ℕ) (xs : List Item) → list_any p xs ≡ false → fold (λ b y. b + cond (p y) 1 0) a xs ≡ a
count_none_from p a [] e = refl
count_none_from p a (x ∷ xs) e =
    let parts = or_parts (p x) (list_any p xs) e in
    let same : a + cond (p x) 1 0 ≡ a = rw parts.0 (omega arith) in
    count_none_from p (a + cond (p x) 1 0) xs parts.1 ∙ same

count_none : (p : Item → Bool) (xs : List Item) → list_any p xs ≡ false → count_by p xs ≡ 0
count_none p xs e = count_none_from p 0 xs e

module _ (p : Item → Bool) (I : List Item → Type 0)
    (kept : (before : List Item) (item : Item) → I before → fits before item ≡ true → I (before ++ item ∷ []))
    (new : (before : List Item) (item : Item) → I before → fits before item ≡ true → p item ≡ true → count_by p before ≡ 0) where
  once : (before items : List Item) → I before → count_by p before ≤ 1 → all_fit before items ≡ true → count_by p (before ++ items) ≤ 1
  once before [] i c e = rw append-nil c
  once before (item ∷ items) i c e =
      let parts = and_parts (fits before item) (all_fit (before ++ item ∷ []) items) e in
      let here : count_by p (before ++ item ∷ []) ≤ 1 =
      rw (count_push p before item)
      (⊎_elim (λ yes. rw yes (omega (arith, new before item i parts.0 yes))) (λ no. rw no (omega arith)) (cases_Bool (p item))) in
      rw append_assoc at (once (before ++ item ∷ []) items (kept before item i parts.0) here parts.1)

pub end_new : (n : ℕ) (before : List Item) (item : Item) → fits before item ≡ true → is_end n item ≡ true → list_any (is_end n) before ≡ false
end_new n before (Sale k amount account code) fit e =
    subst (λ j. list_any (is_end j) before ≡ false) (eqb-true k n e) (not-true _ (and_parts (is_number k) (not (list_any (is_end k) before)) fit).1)
end_new n before (Void k) fit e =
    subst (λ j. list_any (is_end j) before ≡ false) (eqb-true k n e) (not-true _ (and_parts (is_number k) (not (list_any (is_end k) before)) fit).1)
end_new n before (Cancel k amount) fit e = absurd (false≢true e)
end_new n before (Close p totals) fit e = absurd (false≢true e)

-- a Sale that is found among the kept ones passes their test
pub kept_passes : (test : ℕ → Bool) (k a : ℕ) (xs : List Item) → list_any (is_sale_of k a) (filter (is_sale_where test) xs) ≡ true → test k ≡ true
kept_passes test k a [] e = absurd (false≢true e)
kept_passes test k a (Sale j b account code ∷ xs) e =
    ⊎_elim
    (λ yes.
    let e' : ((j == k) && (b == a) || list_any (is_sale_of k a) (filter (is_sale_where test) xs)) ≡ true = rw yes at e in
    ⊎_elim (λ here. subst (λ n. test n ≡ true) (eqb-true j k (and_parts (j == k) (b == a) here).0) yes) (λ later. kept_passes test k a xs later) (or_cases _ _ e'))
    (λ no. kept_passes test k a xs (rw no at e))
    (cases_Bool (test j))
kept_passes test k a (Void j ∷ xs) e = kept_passes test k a xs e
kept_passes test k a (Cancel j b ∷ xs) e = kept_passes test k a xs e
kept_passes test k a (Close p totals ∷ xs) e = kept_passes test k a xs e

pub cancel_new : (n : ℕ) (before : List Item) (item : Item) → fits before item ≡ true → is_cancel n item ≡ true → list_any (is_cancel n) before ≡ false
cancel_new n before (Sale k amount account code) fit e = absurd (false≢true e)
cancel_new n before (Void k) fit e = absurd (false≢true e)
cancel_new n before (Cancel k amount) fit e =
    subst (λ j. list_any (is_cancel j) before ≡ false) (eqb-true k n e) (not-true _ (kept_passes (λ j. not (list_any (is_cancel j) before)) k amount before fit))
cancel_new n before (Close p totals) fit e = absurd (false≢true e)

-- no period past the last is closed
abbrev ClosedInOrder : List Item → Type 0
ClosedInOrder before = (q : ℕ) → count_by is_any_close before < q → count_by (is_close q) before ≡ 0

closed_kept : (before : List Item) (item : Item) → ClosedInOrder before → fits before item ≡ true → ClosedInOrder (before ++ item ∷ [])
closed_kept before (Sale k amount account code) i fit q lt = rw count_push (omega (arith, i q (omega (arith, count_push is_any_close before (Sale k amount account code)))))
closed_kept before (Void k) i fit q lt = rw count_push (omega (arith, i q (omega (arith, count_push is_any_close before (Void k)))))
closed_kept before (Cancel k amount) i fit q lt = rw count_push (omega (arith, i q (omega (arith, count_push is_any_close before (Cancel k amount)))))
closed_kept before (Close p totals) i fit q lt =
    let is : p ≡ count_by is_any_close before + 1 = eqb-true p _ (and_parts (p == count_by is_any_close before + 1) (nat_le p 250000) fit).0 in
    let more : count_by is_any_close before + 1 < q = omega (arith, count_push is_any_close before (Close p totals)) in
    let ne : (p == q) ≡ false = ne_eqb p q (λ (e : p ≡ q). absurd (omega arith)) in
    rw count_push (rw ne (omega (arith, i q (omega arith))))

close_new : (q : ℕ) (before : List Item) (item : Item) → ClosedInOrder before → fits before item ≡ true → is_close q item ≡ true → count_by (is_close q) before ≡ 0
close_new q before (Sale k amount account code) i fit e = absurd (false≢true e)
close_new q before (Void k) i fit e = absurd (false≢true e)
close_new q before (Cancel k amount) i fit e = absurd (false≢true e)
close_new q before (Close p totals) i fit e =
    i q (omega (arith, eqb-true p q e, eqb-true p (count_by is_any_close before + 1) (and_parts (p == count_by is_any_close before + 1) (nat_le p 250000) fit).0))

pub one_end : (log : List Item) → all_fit [] log ≡ true → (n : ℕ) → count_by (is_end n) log ≤ 1
one_end log fit n =
    once (is_end n) (λ _. Unit {0}) (λ before item i f. tt) (λ before item i f e. count_none (is_end n) before (end_new n before item f e)) [] log tt (omega arith) fit

pub one_cancel : (log : List Item) → all_fit [] log ≡ true → (n : ℕ) → count_by (is_cancel n) log ≤ 1
one_cancel log fit n =
    once (is_cancel n) (λ _. Unit {0}) (λ before item i f. tt) (λ before item i f e. count_none (is_cancel n) before (cancel_new n before item f e)) [] log tt (omega arith) fit

pub one_close : (log : List Item) → all_fit [] log ≡ true → (q : ℕ) → count_by (is_close q) log ≤ 1
one_close log fit q =
    once (is_close q) ClosedInOrder closed_kept (close_new q) [] log (λ q lt. refl) (omega arith) fit
