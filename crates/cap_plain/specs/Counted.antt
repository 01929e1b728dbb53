-- In a log whose items fit one after another there are at most 250,000 Sales and as many Cancels.
use Rattle.std.proofs.Common.{◌≡◌, ℕ, ◌-◌, ◌≤◌, Bool, true, false, nat_eq, List, [], ◌∷◌, ◌++◌, length, refl, sym, ◌∙◌, ap, arith, length-append, append-nil, ◌||◌, ◌⊎◌, inl, inr, ⊎_elim, not, ◌&&◌, leb-true, eqb-true, eq-eqb, subst}
use Rattle.std.specs.Prelude.{filter, sum_by, ◌==◌, nat_le}
use Rattle.std.specs.List.{list_any, flat_map, IsDistinct}
use Rattle.std.specs.Cmp.{nat_eq_equiv}
use Rattle.std.proofs.Math.Bool.{or-false}
use Rattle.std.proofs.lemmas.Bool.{or_cases, or_left, or_right, both_ways, false_from_ne_true, false≢true, and_parts, cases_Bool, cond-true, cond-false}
use Rattle.std.proofs.lemmas.List.Folds.{list_any-append}
use Rattle.std.proofs.lemmas.List.Sums.{sum_by-append}
use Rattle.std.proofs.lemmas.Grind.{flat_map-append}
use Rattle.std.proofs.lemmas.Map.Keys.{IsDistinct-push}
use Rattle.std.proofs.lemmas.Map.Steps.{length-le_from_distinct_below}
use Rattle.cap_base.specs.declared.item.Item.{Item}
use Rattle.cap_base.specs.declared.item.Item.TheVariants.{Sale, Void, Cancel, Close}
use Rattle.cap_base.specs.Item.{is_end, is_cancel, is_sale_where, is_sale_of, sale_count, cancel_count}
use Rattle.cap_base.specs.Captured.{before_close, after_close, period_items}
use Rattle.cap_base.specs.Fits.{is_number, fits, all_fit}
use Rattle.cap_entries.specs.FitsLaws.{along_fits}
use Rattle.cap_plain.specs.Once.{end_new, cancel_new}

abbrev pub sale_number : Item → List ℕ
sale_number (Sale n amount account code) = n ∷ []
sale_number (Void n) = []
sale_number (Cancel n amount) = []
sale_number (Close p totals) = []

abbrev pub cancel_number : Item → List ℕ
cancel_number (Sale n amount account code) = []
cancel_number (Void n) = []
cancel_number (Cancel n amount) = n ∷ []
cancel_number (Close p totals) = []

one_sale : (item : Item) → sale_count item ≡ length (sale_number item)
one_sale (Sale n amount account code) = refl
one_sale (Void n) = refl
one_sale (Cancel n amount) = refl
one_sale (Close p totals) = refl

one_cancel : (item : Item) → cancel_count item ≡ length (cancel_number item)
one_cancel (Sale n amount account code) = refl
one_cancel (Void n) = refl
one_cancel (Cancel n amount) = refl
one_cancel (Close p totals) = refl

turned : (n k : ℕ) → (nat_eq n k || false) ≡ true → (k == n) ≡ true
turned n k t = eq-eqb k n (sym (eqb-true n k (rw or-false at t)))

ends_sale : (n : ℕ) (item : Item) → list_any (nat_eq n) (sale_number item) ≡ true → is_end n item ≡ true
ends_sale n (Sale k amount account code) t = turned n k t
ends_sale n (Void k) t = absurd (false≢true t)
ends_sale n (Cancel k amount) t = absurd (false≢true t)
ends_sale n (Close p totals) t = absurd (false≢true t)

cancels_sale : (n : ℕ) (item : Item) → list_any (nat_eq n) (cancel_number item) ≡ true → is_cancel n item ≡ true
cancels_sale n (Sale k amount account code) t = absurd (false≢true t)
cancels_sale n (Void k) t = absurd (false≢true t)
cancels_sale n (Cancel k amount) t = turned n k t
cancels_sale n (Close p totals) t = absurd (false≢true t)

-- a captured sale stands in the log
sale_ends : (test : ℕ → Bool) (k a : ℕ) (xs : List Item) → list_any (is_sale_of k a) (filter (is_sale_where test) xs) ≡ true → list_any (is_end k) xs ≡ true
sale_ends test k a [] e = absurd (false≢true e)
sale_ends test k a (Sale j b account code ∷ xs) e =
    ⊎_elim
    (λ yes.
    let e' : ((j == k) && (b == a) || list_any (is_sale_of k a) (filter (is_sale_where test) xs)) ≡ true = rw yes at e in
    ⊎_elim (λ here. or_left _ _ (and_parts (j == k) (b == a) here).0) (λ later. or_right _ _ (sale_ends test k a xs later)) (or_cases _ _ e'))
    (λ no. or_right _ _ (sale_ends test k a xs (rw no at e)))
    (cases_Bool (test j))
sale_ends test k a (Void j ∷ xs) e = or_right _ _ (sale_ends test k a xs e)
sale_ends test k a (Cancel j b ∷ xs) e = sale_ends test k a xs e
sale_ends test k a (Close p totals ∷ xs) e = sale_ends test k a xs e

-- what holds of a log whose items fit
pub record Counted (log : List Item) : Type 0 where
  pub sales : IsDistinct nat_eq (flat_map sale_number log)
  pub sold : (n : ℕ) → list_any (nat_eq n) (flat_map sale_number log) ≡ true → list_any (is_end n) log ≡ true
  pub within : (n : ℕ) → list_any (is_end n) log ≡ true → (1 ≤ n) × (n ≤ 250000)
  pub cancels : IsDistinct nat_eq (flat_map cancel_number log)
  pub cancelled : (n : ℕ) → list_any (nat_eq n) (flat_map cancel_number log) ≡ true → list_any (is_cancel n) log ≡ true
  pub cancels_within : (n : ℕ) → list_any (is_cancel n) log ≡ true → (1 ≤ n) × (n ≤ 250000)

found : (test : Item → Bool) (log : List Item) (item : Item) → list_any test (log ++ item ∷ []) ≡ true → (list_any test log ≡ true) ⊎ (test item ≡ true)
found test log item t = ⊎_elim (λ h. inl h) (λ h. inr (rw or-false at h)) (or_cases _ _ (sym (list_any-append test log (item ∷ [])) ∙ t))

found_before : (test : Item → Bool) (log : List Item) (item : Item) → list_any test log ≡ true → list_any test (log ++ item ∷ []) ≡ true
found_before test log item t = list_any-append test log (item ∷ []) ∙ or_left _ _ t

found_last : (test : Item → Bool) (log : List Item) (item : Item) → test item ≡ true → list_any test (log ++ item ∷ []) ≡ true
found_last test log item t = list_any-append test log (item ∷ []) ∙ or_right _ _ (or_left _ _ t)

numbers-push : (f : Item → List ℕ) (log : List Item) (item : Item) → flat_map f (log ++ item ∷ []) ≡ flat_map f log ++ f item
numbers-push f log item = flat_map-append f log (item ∷ []) ∙ ap (λ (e : List ℕ). flat_map f log ++ e) (append-nil (f item))

found_number : (n : ℕ) (f : Item → List ℕ) (log : List Item) (item : Item) → list_any (nat_eq n) (flat_map f (log ++ item ∷ [])) ≡ true
    → (list_any (nat_eq n) (flat_map f log) ≡ true) ⊎ (list_any (nat_eq n) (f item) ≡ true)
found_number n f log item t = or_cases _ _ (sym (ap (list_any (nat_eq n)) (numbers-push f log item) ∙ list_any-append (nat_eq n) (flat_map f log) (f item)) ∙ t)

sales-push : (log : List Item) (item : Item) → Counted log → fits log item ≡ true → IsDistinct nat_eq (flat_map sale_number log ++ sale_number item)
sales-push log (Sale n amount account code) h fit =
    IsDistinct-push nat_eq_equiv (flat_map sale_number log) n h.sales
    (false_from_ne_true _ (λ t. both_ways _ (end_new n log (Sale n amount account code) fit (eq-eqb n n refl)) (h.sold n t)))
sales-push log (Void m) h fit = rw (append-nil (flat_map sale_number log)) h.sales
sales-push log (Cancel m amount) h fit = rw (append-nil (flat_map sale_number log)) h.sales
sales-push log (Close p totals) h fit = rw (append-nil (flat_map sale_number log)) h.sales

cancels-push : (log : List Item) (item : Item) → Counted log → fits log item ≡ true → IsDistinct nat_eq (flat_map cancel_number log ++ cancel_number item)
cancels-push log (Sale n amount account code) h fit = rw (append-nil (flat_map cancel_number log)) h.cancels
cancels-push log (Void m) h fit = rw (append-nil (flat_map cancel_number log)) h.cancels
cancels-push log (Cancel n amount) h fit =
    IsDistinct-push nat_eq_equiv (flat_map cancel_number log) n h.cancels
    (false_from_ne_true _ (λ t. both_ways _ (cancel_new n log (Cancel n amount) fit (eq-eqb n n refl)) (h.cancelled n t)))
cancels-push log (Close p totals) h fit = rw (append-nil (flat_map cancel_number log)) h.cancels

number_within : (k n : ℕ) → is_number k ≡ true → (k == n) ≡ true → (1 ≤ n) × (n ≤ 250000)
number_within k n ok t =
    let parts = and_parts (nat_le 1 k) (nat_le k 250000) ok in
    subst (λ j. (1 ≤ j) × (j ≤ 250000)) (eqb-true k n t) (leb-true 1 k parts.0, leb-true k 250000 parts.1)

end_within : (log : List Item) (item : Item) (n : ℕ) → fits log item ≡ true → is_end n item ≡ true → (1 ≤ n) × (n ≤ 250000)
end_within log (Sale k amount account code) n fit t = number_within k n (and_parts (is_number k) (not (list_any (is_end k) log)) fit).0 t
end_within log (Void k) n fit t = number_within k n (and_parts (is_number k) (not (list_any (is_end k) log)) fit).0 t
end_within log (Cancel k amount) n fit t = absurd (false≢true t)
end_within log (Close p totals) n fit t = absurd (false≢true t)

cancel_within : (log : List Item) (item : Item) (n : ℕ) → Counted log → fits log item ≡ true → is_cancel n item ≡ true → (1 ≤ n) × (n ≤ 250000)
cancel_within log (Sale k amount account code) n h fit t = absurd (false≢true t)
cancel_within log (Void k) n h fit t = absurd (false≢true t)
cancel_within log (Cancel k amount) n h fit t =
    subst (λ j. (1 ≤ j) × (j ≤ 250000)) (eqb-true k n t) (h.within k (sale_ends (λ j. not (list_any (is_cancel j) log)) k amount log fit))
cancel_within log (Close p totals) n h fit t = absurd (false≢true t)

counted_step : (log : List Item) (item : Item) → Counted log → fits log item ≡ true → Counted (log ++ item ∷ [])
counted_step log item h fit =
    record {
      sales = rw (numbers-push sale_number log item) (sales-push log item h fit);
      sold = λ n t.
          ⊎_elim (λ before. found_before (is_end n) log item (h.sold n before)) (λ last. found_last (is_end n) log item (ends_sale n item last))
          (found_number n sale_number log item t);
      within = λ n t. ⊎_elim (λ before. h.within n before) (λ last. end_within log item n fit last) (found (is_end n) log item t);
      cancels = rw (numbers-push cancel_number log item) (cancels-push log item h fit);
      cancelled = λ n t.
          ⊎_elim (λ before. found_before (is_cancel n) log item (h.cancelled n before)) (λ last. found_last (is_cancel n) log item (cancels_sale n item last))
          (found_number n cancel_number log item t);
      cancels_within = λ n t. ⊎_elim (λ before. h.cancels_within n before) (λ last. cancel_within log item n h fit last) (found (is_cancel n) log item t);
    }

counted_none : Counted []
unfolding IsDistinct
counted_none =
    record {
      sales = tt;
      sold = λ n t. t;
      within = λ n t. absurd (false≢true t);
      cancels = tt;
      cancelled = λ n t. t;
      cancels_within = λ n t. absurd (false≢true t);
    }

pub counted : (log : List Item) → all_fit [] log ≡ true → Counted log
counted log fit = along_fits Counted counted_step [] log counted_none fit

sum_of_numbers : (count : Item → ℕ) (f : Item → List ℕ) → ((item : Item) → count item ≡ length (f item)) → (log : List Item) → sum_by count log ≡ length (flat_map f log)
sum_of_numbers count f one [] = refl
sum_of_numbers count f one (item ∷ log) =
    omega (arith, one item, sum_by-append count (item ∷ []) log, length-append (f item) (flat_map f log), sum_of_numbers count f one log)

-- distinct numbers of 1 to 250,000
few_numbers : (numbers : List ℕ) → IsDistinct nat_eq numbers → ((n : ℕ) → list_any (nat_eq n) numbers ≡ true → (1 ≤ n) × (n ≤ 250000)) → length numbers ≤ 250000
few_numbers numbers distinct within =
    let none : list_any (nat_eq 0) numbers ≡ false = false_from_ne_true _ (λ t. absurd (omega (arith, (within 0 t).0))) in
    let more = length-le_from_distinct_below (numbers ++ 0 ∷ []) 250001 (IsDistinct-push nat_eq_equiv numbers 0 distinct none) (λ q t.
    ⊎_elim
    (λ before. omega (arith, (within q before).1))
    (λ last. omega (arith, eqb-true q 0 (rw or-false at last)))
    (or_cases (list_any (nat_eq q) numbers) (nat_eq q 0 || false) (sym (list_any-append (nat_eq q) numbers (0 ∷ [])) ∙ t))) in
    omega (arith, more, length-append numbers (0 ∷ []))

pub few_sales : (log : List Item) → all_fit [] log ≡ true → sum_by sale_count log ≤ 250000
few_sales log fit =
    let h = counted log fit in
    rw (sum_of_numbers sale_count sale_number one_sale log) (few_numbers (flat_map sale_number log) h.sales (λ n t. h.within n (h.sold n t)))

pub few_cancels : (log : List Item) → all_fit [] log ≡ true → sum_by cancel_count log ≤ 250000
few_cancels log fit =
    let h = counted log fit in
    rw (sum_of_numbers cancel_count cancel_number one_cancel log) (few_numbers (flat_map cancel_number log) h.cancels (λ n t. h.cancels_within n (h.cancelled n t)))

-- a period has no more of anything than the log
sum_before : (f : Item → ℕ) (p : ℕ) (log : List Item) → sum_by f (before_close p log) ≤ sum_by f log
sum_before f p [] = omega arith
sum_before f p (Sale n amount account code ∷ log) =
    omega (arith, sum_before f p log, sum_by-append f (Sale n amount account code ∷ []) log, sum_by-append f (Sale n amount account code ∷ []) (before_close p log))
sum_before f p (Void n ∷ log) = omega (arith, sum_before f p log, sum_by-append f (Void n ∷ []) log, sum_by-append f (Void n ∷ []) (before_close p log))
sum_before f p (Cancel n amount ∷ log) = omega (arith, sum_before f p log, sum_by-append f (Cancel n amount ∷ []) log, sum_by-append f (Cancel n amount ∷ []) (before_close p log))
sum_before f p (Close q totals ∷ log) =
    ⊎_elim
    (λ yes. rw (cond-true (q == p) _ _ yes) (omega arith))
    (λ no. rw (cond-false (q == p) _ _ no)
    (omega (arith, sum_before f p log, sum_by-append f (Close q totals ∷ []) log, sum_by-append f (Close q totals ∷ []) (before_close p log))))
    (cases_Bool (q == p))

sum_after : (f : Item → ℕ) (p : ℕ) (log : List Item) → sum_by f (after_close p log) ≤ sum_by f log
sum_after f p [] = omega arith
sum_after f p (Sale n amount account code ∷ log) = omega (arith, sum_after f p log, sum_by-append f (Sale n amount account code ∷ []) log)
sum_after f p (Void n ∷ log) = omega (arith, sum_after f p log, sum_by-append f (Void n ∷ []) log)
sum_after f p (Cancel n amount ∷ log) = omega (arith, sum_after f p log, sum_by-append f (Cancel n amount ∷ []) log)
sum_after f p (Close q totals ∷ log) =
    ⊎_elim
    (λ yes. rw (cond-true (q == p) _ _ yes) (omega (arith, sum_by-append f (Close q totals ∷ []) log)))
    (λ no. rw (cond-false (q == p) _ _ no) (omega (arith, sum_after f p log, sum_by-append f (Close q totals ∷ []) log)))
    (cases_Bool (q == p))

pub sum_period : (f : Item → ℕ) (p : ℕ) (log : List Item) → sum_by f (period_items log p) ≤ sum_by f log
sum_period f p log =
    ⊎_elim
    (λ yes. rw (cond-true (p == 1) _ _ yes) (sum_before f p log))
    (λ no. rw (cond-false (p == 1) _ _ no) (omega (arith, sum_after f (p - 1) (before_close p log), sum_before f p log)))
    (cases_Bool (p == 1))
