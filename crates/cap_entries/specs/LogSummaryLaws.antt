-- The summary of a log whose items fit tells exactly which item fits next.
use Rattle.std.proofs.Common.{◌≡◌, ℕ, zero, suc, ◌+◌, ◌-◌, ◌≤◌, Bool, true, false, cond, not, ◌&&◌, ◌||◌, List, [], ◌∷◌, ◌++◌, length, replicate, get_or, refl, sym, ◌∙◌, ap, subst, ⊎_elim, arith, eqb-true, eq-eqb, leb-true, length-append}
use Rattle.std.specs.Prelude.{◌==◌, nat_le, count_by, filter, slice_set}
use Rattle.std.specs.List.{list_any}
use Rattle.std.proofs.Math.Bool.{or-false}
use Rattle.std.proofs.lemmas.Bool.{cond-true, cond-false, cases_Bool, false≢true, both_ways, and_parts, not-true}
use Rattle.std.proofs.lemmas.List.{get_or-set_same, get_or-set_other, length-replicate}
use Rattle.std.proofs.lemmas.List.Sums.{fold_push}
use Rattle.cap_base.specs.declared.item.Item.{Item}
use Rattle.cap_base.specs.declared.item.Item.TheVariants.{Sale, Void, Cancel, Close}
use Rattle.cap_base.specs.Item.{is_end, is_cancel, is_any_close, is_sale_where, is_sale_of}
use Rattle.cap_base.specs.Fits.{is_number, fits}
use Rattle.cap_entries.specs.declared.sale_end.SaleEnd.{SaleEnd}
use Rattle.cap_entries.specs.declared.sale_end.SaleEnd.TheVariants.{Free, Voided, Sold, Cancelled}
use Rattle.cap_entries.specs.StepLaws.{tested, untouched}
use Rattle.cap_entries.specs.LogSummary.{end_of, padded, set_end, is_taken, was_sold, has_cancel, is_sold, LogSummary, no_log, log_after, log_fits}

and_yes : (b : Bool) → (b && true) ≡ b
and_yes true = refl
and_yes false = refl

and_no : (b : Bool) → (b && false) ≡ false
and_no true = refl
and_no false = refl

count_other : (log : List Item) (item : Item) → is_any_close item ≡ false → count_by is_any_close (log ++ item ∷ []) ≡ count_by is_any_close log
count_other log item other = fold_push (λ a x. a + cond (is_any_close x) 1 0) 0 log item ∙ rw other (omega arith)

none_there : (m i : ℕ) → get_or (replicate m Free) i Free ≡ Free
none_there zero i = refl
none_there (suc m) zero = refl
none_there (suc m) (suc i) = none_there m i

get_padded : (ends : List SaleEnd) (m i : ℕ) → get_or (ends ++ replicate m Free) i Free ≡ get_or ends i Free
get_padded [] m i = none_there m i
get_padded (e ∷ ends) m zero = refl
get_padded (e ∷ ends) m (suc i) = get_padded ends m i

length-padded : (ends : List SaleEnd) (n : ℕ) → n ≤ length (padded ends n)
length-padded ends n = omega (arith, length-append ends (replicate (n - length ends) Free), length-replicate (n - length ends) Free)

set_there : (ends : List SaleEnd) (k : ℕ) (e : SaleEnd) → 1 ≤ k → end_of (set_end ends k e) k ≡ e
set_there ends zero e h = absurd (omega (arith, h))
set_there ends (suc k) e h = get_or-set_same (padded ends (k + 1)) k e Free (omega (arith, length-padded ends (k + 1)))

set_other : (ends : List SaleEnd) (k : ℕ) (e : SaleEnd) (n : ℕ) → (k ≡ n → ⊥) → end_of (set_end ends k e) n ≡ end_of ends n
set_other ends zero e n ne = refl
set_other ends (suc k) e zero ne = refl
set_other ends (suc k) e (suc n) ne = get_or-set_other (padded ends (k + 1)) k n e Free (λ same. ne (ap suc (sym same))) ∙ get_padded ends (k + 1 - length ends) n

-- one number more
pub end-set : (ends : List SaleEnd) (k : ℕ) (e : SaleEnd) (n : ℕ) → 1 ≤ k → end_of (set_end ends k e) n ≡ cond (k == n) e (end_of ends n)
end-set ends k e n h =
    ⊎_elim
    (λ equal. rw (cond-true (k == n) _ _ equal) (subst (λ j. end_of (set_end ends k e) j ≡ e) (eqb-true k n equal) (set_there ends k e h)))
    (λ unequal. rw (cond-false (k == n) _ _ unequal) (set_other ends k e n (λ same. both_ways _ unequal (eq-eqb k n same))))
    (cases_Bool (k == n))

-- a captured sale is a Sale of a number that passes
pub captured_sale : (test : ℕ → Bool) (n a : ℕ) (xs : List Item) → list_any (is_sale_of n a) (filter (is_sale_where test) xs) ≡ (list_any (is_sale_of n a) xs && test n)
captured_sale test n a [] = refl
captured_sale test n a (Sale k b account code ∷ xs) =
    let head : Bool = (k == n) && (b == a) in
    let rest = captured_sale test n a xs in
    ⊎_elim
    (λ here.
    let same : test k ≡ test n = ap test (eqb-true k n (and_parts (k == n) (b == a) here).0) in
    ⊎_elim
    (λ kept. rw (cond-true (test k) _ _ kept, here, sym same ∙ kept) refl)
    (λ dropped. rw (cond-false (test k) _ _ dropped, here) (rest ∙ (ap (λ b. list_any (is_sale_of n a) xs && b) (sym same ∙ dropped) ∙ (and_no (list_any (is_sale_of n a) xs) ∙ sym (sym same ∙ dropped)))))
    (cases_Bool (test k)))
    (λ elsewhere.
    ⊎_elim
    (λ kept. rw (cond-true (test k) _ _ kept)
    (ap (λ h. h || list_any (is_sale_of n a) (filter (is_sale_where test) xs)) elsewhere ∙ (rest ∙ sym (ap (λ h. (h || list_any (is_sale_of n a) xs) && test n) elsewhere))))
    (λ dropped. rw (cond-false (test k) _ _ dropped) (rest ∙ sym (ap (λ h. (h || list_any (is_sale_of n a) xs) && test n) elsewhere)))
    (cases_Bool (test k)))
    (cases_Bool head)
captured_sale test n a (Void k ∷ xs) = captured_sale test n a xs
captured_sale test n a (Cancel k b ∷ xs) = captured_sale test n a xs
captured_sale test n a (Close p totals ∷ xs) = captured_sale test n a xs

-- what the summary of a log says
pub record LogTies (log : List Item) (s : LogSummary) : Type 0 where
  pub taken : (n : ℕ) → is_taken (end_of s.ends n) ≡ list_any (is_end n) log
  pub sold : (n a : ℕ) → was_sold a (end_of s.ends n) ≡ list_any (is_sale_of n a) log
  pub cancelled : (n : ℕ) → has_cancel (end_of s.ends n) ≡ list_any (is_cancel n) log
  pub closes : s.closes ≡ count_by is_any_close log

sold_is : (a : ℕ) (e : SaleEnd) → is_sold a e ≡ (was_sold a e && not (has_cancel e))
sold_is a Free = refl
sold_is a Voided = refl
sold_is a (Sold b) = sym (and_yes (b == a))
sold_is a (Cancelled b) = sym (and_no (b == a))

-- what fits the summary fits the log
pub log_fits_is : (log : List Item) (s : LogSummary) (item : Item) → LogTies log s → log_fits s item ≡ fits log item
log_fits_is log s (Sale n amount account code) t = ap (λ b. is_number n && not b) (t.taken n)
log_fits_is log s (Void n) t = ap (λ b. is_number n && not b) (t.taken n)
log_fits_is log s (Cancel n amount) t =
    sold_is amount (end_of s.ends n)
    ∙ (ap (λ b. b && not (has_cancel (end_of s.ends n))) (t.sold n amount)
    ∙ (ap (λ b. list_any (is_sale_of n amount) log && not b) (t.cancelled n)
    ∙ sym (captured_sale (λ k. not (list_any (is_cancel k) log)) n amount log)))
log_fits_is log s (Close p totals) t = ap (λ k. (p == k + 1) && nat_le p 250000) t.closes

free_is : (e : SaleEnd) → is_taken e ≡ false → e ≡ Free
free_is Free h = refl
free_is Voided h = absurd (false≢true (sym h))
free_is (Sold a) h = absurd (false≢true (sym h))
free_is (Cancelled a) h = absurd (false≢true (sym h))

sold_end : (a : ℕ) (e : SaleEnd) → is_sold a e ≡ true → e ≡ Sold a
sold_end a Free h = absurd (false≢true h)
sold_end a Voided h = absurd (false≢true h)
sold_end a (Sold b) h = ap (λ c. Sold c) (eqb-true b a h)
sold_end a (Cancelled b) h = absurd (false≢true h)

-- a number that is not free is at least 1
some_number : (ends : List SaleEnd) (n : ℕ) (a : ℕ) → end_of ends n ≡ Sold a → 1 ≤ n
some_number ends zero a h = absurd (false≢true (ap is_taken h))
some_number ends (suc n) a h = omega arith

at : (ends : List SaleEnd) (k n : ℕ) (e : SaleEnd) → end_of ends k ≡ e → (k == n) ≡ true → end_of ends n ≡ e
at ends k n e h equal = subst (λ j. end_of ends j ≡ e) (eqb-true k n equal) h

ties_sale : (log : List Item) (s : LogSummary) (k amount : ℕ) (account code : List ℕ) → LogTies log s → 1 ≤ k → end_of s.ends k ≡ Free
    → LogTies (log ++ Sale k amount account code ∷ []) (log_after s (Sale k amount account code))
ties_sale log s k amount account code t h free =
    let item : Item = Sale k amount account code in
    record {
      taken = λ n. tested is_taken (is_end n) log item (end_of s.ends n) _ (Sold amount) (k == n) (t.taken n) (end-set s.ends k (Sold amount) n h)
          (λ equal. rw (at s.ends k n Free free equal, equal) refl) (λ unequal. unequal);
      sold = λ n a. tested (was_sold a) (is_sale_of n a) log item (end_of s.ends n) _ (Sold amount) (k == n) (t.sold n a) (end-set s.ends k (Sold amount) n h)
          (λ equal. rw (at s.ends k n Free free equal, equal) refl) (λ unequal. rw unequal refl);
      cancelled = λ n. tested has_cancel (is_cancel n) log item (end_of s.ends n) _ (Sold amount) (k == n) (t.cancelled n) (end-set s.ends k (Sold amount) n h)
          (λ equal. rw (at s.ends k n Free free equal) refl) (λ unequal. refl);
      closes = t.closes ∙ sym (count_other log item refl);
    }

ties_void : (log : List Item) (s : LogSummary) (k : ℕ) → LogTies log s → 1 ≤ k → end_of s.ends k ≡ Free → LogTies (log ++ Void k ∷ []) (log_after s (Void k))
ties_void log s k t h free =
    record {
      taken = λ n. tested is_taken (is_end n) log (Void k) (end_of s.ends n) _ Voided (k == n) (t.taken n) (end-set s.ends k Voided n h)
          (λ equal. rw (at s.ends k n Free free equal, equal) refl) (λ unequal. unequal);
      sold = λ n a. tested (was_sold a) (is_sale_of n a) log (Void k) (end_of s.ends n) _ Voided (k == n) (t.sold n a) (end-set s.ends k Voided n h)
          (λ equal. rw (at s.ends k n Free free equal) refl) (λ unequal. refl);
      cancelled = λ n. tested has_cancel (is_cancel n) log (Void k) (end_of s.ends n) _ Voided (k == n) (t.cancelled n) (end-set s.ends k Voided n h)
          (λ equal. rw (at s.ends k n Free free equal) refl) (λ unequal. refl);
      closes = t.closes ∙ sym (count_other log (Void k) refl);
    }

ties_cancel : (log : List Item) (s : LogSummary) (k amount : ℕ) → LogTies log s → end_of s.ends k ≡ Sold amount → LogTies (log ++ Cancel k amount ∷ []) (log_after s (Cancel k amount))
ties_cancel log s k amount t sold =
    let h = some_number s.ends k amount sold in
    record {
      taken = λ n. tested is_taken (is_end n) log (Cancel k amount) (end_of s.ends n) _ (Cancelled amount) (k == n) (t.taken n) (end-set s.ends k (Cancelled amount) n h)
          (λ equal. rw (at s.ends k n (Sold amount) sold equal) refl) (λ unequal. refl);
      sold = λ n a. tested (was_sold a) (is_sale_of n a) log (Cancel k amount) (end_of s.ends n) _ (Cancelled amount) (k == n) (t.sold n a) (end-set s.ends k (Cancelled amount) n h)
          (λ equal. rw (at s.ends k n (Sold amount) sold equal) (sym (or-false (amount == a)))) (λ unequal. refl);
      cancelled = λ n. tested has_cancel (is_cancel n) log (Cancel k amount) (end_of s.ends n) _ (Cancelled amount) (k == n) (t.cancelled n) (end-set s.ends k (Cancelled amount) n h)
          (λ equal. rw (at s.ends k n (Sold amount) sold equal, equal) refl) (λ unequal. unequal);
      closes = t.closes ∙ sym (count_other log (Cancel k amount) refl);
    }

-- one item more that fits
pub ties_step : (log : List Item) (s : LogSummary) (item : Item) → LogTies log s → log_fits s item ≡ true → LogTies (log ++ item ∷ []) (log_after s item)
ties_step log s (Sale k amount account code) t fit =
    let parts = and_parts (is_number k) (not (is_taken (end_of s.ends k))) fit in
    ties_sale log s k amount account code t (leb-true 1 k (and_parts (nat_le 1 k) (nat_le k 250000) parts.0).0) (free_is (end_of s.ends k) (not-true _ parts.1))
ties_step log s (Void k) t fit =
    let parts = and_parts (is_number k) (not (is_taken (end_of s.ends k))) fit in
    ties_void log s k t (leb-true 1 k (and_parts (nat_le 1 k) (nat_le k 250000) parts.0).0) (free_is (end_of s.ends k) (not-true _ parts.1))
ties_step log s (Cancel k amount) t fit = ties_cancel log s k amount t (sold_end amount (end_of s.ends k) fit)
ties_step log s (Close p totals) t fit =
    record {
      taken = λ n. untouched (is_end n) log (Close p totals) _ (t.taken n) refl;
      sold = λ n a. untouched (is_sale_of n a) log (Close p totals) _ (t.sold n a) refl;
      cancelled = λ n. untouched (is_cancel n) log (Close p totals) _ (t.cancelled n) refl;
      closes = eqb-true p (s.closes + 1) (and_parts (p == s.closes + 1) (nat_le p 250000) fit).0 ∙ (ap (λ k. k + 1) t.closes ∙ sym (fold_push (λ a x. a + cond (is_any_close x) 1 0) 0 log (Close p totals)));
    }

free_everywhere : (n : ℕ) → end_of [] n ≡ Free
free_everywhere zero = refl
free_everywhere (suc n) = refl

pub ties_none : LogTies [] no_log
ties_none =
    record {
      taken = λ n. ap is_taken (free_everywhere n);
      sold = λ n a. ap (was_sold a) (free_everywhere n);
      cancelled = λ n. ap has_cancel (free_everywhere n);
      closes = refl;
    }

-- where the code writes it
pub set_end_at : (ends : List SaleEnd) (n : ℕ) (e : SaleEnd) → 1 ≤ n → slice_set (padded ends n) (n - 1) e ≡ set_end ends n e
set_end_at ends zero e h = absurd (omega (arith, h))
set_end_at ends (suc n) e h =
    let a : suc n ≡ n + 1 = omega arith in
    let b : suc n - 1 ≡ n = omega arith in
    ap (λ k. slice_set (padded ends k) (suc n - 1) e) a ∙ ap (λ k. slice_set (padded ends (n + 1)) k e) b

pub long_enough : (ends : List SaleEnd) (n : ℕ) → n ≤ length (padded ends n)
long_enough ends n = length-padded ends n
