-- The periods of a log: running totals, and the totals of the closed ones.
use Rattle.std.proofs.Common.{◌≡◌, ◌⊎◌, ℕ, zero, suc, ◌+◌, ◌-◌, ◌≤◌, Bool, true, false, cond, ◌&&◌, ◌||◌, List, [], ◌∷◌, ◌++◌, length, refl, sym, ◌∙◌, ap, inl, inr, ⊎_elim, arith, eq-eqb, eqb-true, leb-true, le-leb, length-append, slice_index_or}
use Rattle.std.specs.Prelude.{count_by, ◌==◌, nat_le}
use Rattle.std.specs.List.{list_any}
use Rattle.std.proofs.lemmas.Bool.{cond-true, cond-false, cases_Bool, false≢true, and_parts, and_from, or_left, or_right}
use Rattle.std.proofs.Math.Seq.{get_or-append_seam}
use Rattle.std.proofs.lemmas.List.{get_or_append_left}
use Rattle.std.proofs.lemmas.List.Sums.{fold_push}
use Rattle.std.proofs.lemmas.List.Folds.{list_any-append}
use Rattle.cap_base.specs.declared.item.Totals.{Totals}
use Rattle.cap_base.specs.declared.item.Item.{Item}
use Rattle.cap_base.specs.declared.item.Item.TheVariants.{Close}
use Rattle.cap_base.specs.Item.{is_close, is_any_close}
use Rattle.cap_base.specs.Captured.{sums_of, before_close, after_close, period_items, period_totals}
use Rattle.cap_plain.specs.Bounded.{sums_with}
use Rattle.cap_plain.specs.SumsLaws.{sums-push}

abbrev pub nothing : Totals
nothing = record { sales = 0; sales_sum = 0; cancels = 0; cancels_sum = 0 }

-- running: the totals of the period that is open; closed: those of the periods before it
pub record Periods (items : List Item) (running : Totals) (closed : List Totals) : Type 0 where
  pub closes : count_by is_any_close items ≡ length closed
  pub close : (q : ℕ) → list_any (is_close q) items ≡ (nat_le 1 q && nat_le q (length closed))
  pub running_is : running ≡ period_totals items (length closed + 1)
  pub closed_are : (p : ℕ) (d : Totals) → 1 ≤ p → p ≤ length closed → slice_index_or closed (p - 1) d ≡ period_totals items p

before_none : (p : ℕ) (items : List Item) → list_any (is_close p) items ≡ false → before_close p items ≡ items
before_none p [] h = refl
before_none p (item ∷ items) h =
    ⊎_elim (λ yes. absurd (false≢true (sym h ∙ or_left (is_close p item) (list_any (is_close p) items) yes)))
    (λ no'. cond-false (is_close p item) _ _ no' ∙ ap (λ l. item ∷ l) (before_none p items (sym (ap (λ b. b || list_any (is_close p) items) no') ∙ h)))
    (cases_Bool (is_close p item))

before_some : (p : ℕ) (items more : List Item) → list_any (is_close p) items ≡ true → before_close p (items ++ more) ≡ before_close p items
before_some p [] more h = absurd (false≢true h)
before_some p (item ∷ items) more h =
    ⊎_elim (λ yes. cond-true (is_close p item) _ _ yes ∙ sym (cond-true (is_close p item) _ _ yes))
    (λ no'. cond-false (is_close p item) _ _ no' ∙ (ap (λ l. item ∷ l) (before_some p items more (sym (ap (λ b. b || list_any (is_close p) items) no') ∙ h)) ∙ sym (cond-false (is_close p item) _ _ no')))
    (cases_Bool (is_close p item))

after_some : (p : ℕ) (items more : List Item) → list_any (is_close p) items ≡ true → after_close p (items ++ more) ≡ after_close p items ++ more
after_some p [] more h = absurd (false≢true h)
after_some p (item ∷ items) more h =
    ⊎_elim (λ yes. cond-true (is_close p item) _ _ yes ∙ ap (λ l. l ++ more) (sym (cond-true (is_close p item) items (after_close p items) yes)))
    (λ no'. cond-false (is_close p item) _ _ no' ∙ (after_some p items more (sym (ap (λ b. b || list_any (is_close p) items) no') ∙ h) ∙ ap (λ l. l ++ more) (sym (cond-false (is_close p item) items (after_close p items) no'))))
    (cases_Bool (is_close p item))

after_here : (p : ℕ) (items : List Item) (item : Item) → list_any (is_close p) items ≡ false → is_close p item ≡ true → after_close p (items ++ item ∷ []) ≡ []
after_here p [] item h here = cond-true (is_close p item) _ _ here
after_here p (head ∷ items) item h here =
    ⊎_elim (λ yes. absurd (false≢true (sym h ∙ or_left (is_close p head) (list_any (is_close p) items) yes)))
    (λ no'. cond-false (is_close p head) _ _ no' ∙ after_here p items item (sym (ap (λ b. b || list_any (is_close p) items) no') ∙ h) here)
    (cases_Bool (is_close p head))

-- the items of the period that is open go on with the list
open_push : (p : ℕ) (items : List Item) (item : Item) → (p ≡ 1) ⊎ (list_any (is_close (p - 1)) items ≡ true) → list_any (is_close p) items ≡ false → is_close p item ≡ false → period_items (items ++ item ∷ []) p ≡ period_items items p ++ item ∷ []
open_push p items item start none other =
    let none' : list_any (is_close p) (items ++ item ∷ []) ≡ false = list_any-append (is_close p) items (item ∷ []) ∙ (ap (λ b. b || (is_close p item || false)) none ∙ ap (λ b. b || false) other) in
    let whole = before_none p items none in
    let whole' = before_none p (items ++ item ∷ []) none' in
    ⊎_elim
    (λ first. cond-true (p == 1) _ _ (eq-eqb p 1 first) ∙ (whole' ∙ ap (λ l. l ++ item ∷ []) (sym (cond-true (p == 1) _ _ (eq-eqb p 1 first) ∙ whole))))
    (λ later.
    ⊎_elim
    (λ yes. cond-true (p == 1) _ _ yes ∙ (whole' ∙ ap (λ l. l ++ item ∷ []) (sym (cond-true (p == 1) _ _ yes ∙ whole))))
    (λ no'. cond-false (p == 1) _ _ no' ∙ (ap (after_close (p - 1)) whole' ∙ (after_some (p - 1) items (item ∷ []) later ∙ ap (λ l. l ++ item ∷ []) (sym (cond-false (p == 1) _ _ no' ∙ ap (after_close (p - 1)) whole)))))
    (cases_Bool (p == 1)))
    start

-- what stands behind Close p changes nothing of it
pub period_kept : (p : ℕ) (items more : List Item) → list_any (is_close p) items ≡ true → period_totals (items ++ more) p ≡ period_totals items p
period_kept p items more h = ap (λ l. sums_of (cond (p == 1) l (after_close (p - 1) l))) (before_some p items more h)

-- the test of a range, opened
range_of : (q n : ℕ) → (nat_le 1 q && nat_le q n) ≡ true → (1 ≤ q) × (q ≤ n)
range_of q n h = let parts = and_parts (nat_le 1 q) (nat_le q n) h in (leb-true 1 q parts.0, leb-true q n parts.1)

range_from : (q n : ℕ) → 1 ≤ q → q ≤ n → (nat_le 1 q && nat_le q n) ≡ true
range_from q n low high = and_from (nat_le 1 q) (nat_le q n) (le-leb 1 q low) (le-leb q n high)

false_or : (b : Bool) → (b ≡ true → ⊥) → b ≡ false
false_or true h = absurd (h refl)
false_or false h = refl

module _ (items : List Item) (running : Totals) (closed : List Totals) (was : Periods items running closed) where
  abbrev p : ℕ
  p = length closed + 1

  none_yet : list_any (is_close p) items ≡ false
  none_yet = false_or _ (λ h. let r = range_of p (length closed) (sym (was.close p) ∙ h) in let no' : ⊥ = omega (arith, r.1) in no')

  begun_at : (p ≡ 1) ⊎ (list_any (is_close (p - 1)) items ≡ true)
  begun_at = split (length closed) refl
    where
      split : (k : ℕ) → k ≡ length closed → (p ≡ 1) ⊎ (list_any (is_close (p - 1)) items ≡ true)
      split zero is = inl (omega (arith, is))
      split (suc k) is = inr (was.close (p - 1) ∙ range_from (p - 1) (length closed) (omega (arith, is)) (omega arith))

  open_counted : (item : Item) → is_close p item ≡ false → period_totals (items ++ item ∷ []) p ≡ sums_with running item
  open_counted item other = ap sums_of (open_push p items item begun_at none_yet other) ∙ (sums-push (period_items items p) item ∙ ap (λ t. sums_with t item) (sym was.running_is))

  -- an item of the period
  pub period_push : (item : Item) → is_any_close item ≡ false → ((q : ℕ) → is_close q item ≡ false) → Periods (items ++ item ∷ []) (sums_with running item) closed
  period_push item other others = record {
    closes = fold_push (λ a x. a + cond (is_any_close x) 1 0) 0 items item ∙ (ap (λ b. count_by is_any_close items + cond b 1 0) other ∙ (let h : count_by is_any_close items + 0 ≡ length closed = omega (arith, was.closes) in h));
    close = λ q. list_any-append (is_close q) items (item ∷ []) ∙ (ap (λ b. list_any (is_close q) items || (b || false)) (others q) ∙ (or_nothing _ ∙ was.close q));
    running_is = sym (open_counted item (others p));
    closed_are = λ q d low high. was.closed_are q d low high ∙ sym (period_kept q items (item ∷ []) (was.close q ∙ range_from q (length closed) low high));
  }
    where
      or_nothing : (b : Bool) → (b || false) ≡ b
      or_nothing true = refl
      or_nothing false = refl

  close_push_same : (q : ℕ) (sums : Totals) → (is_close q (Close p sums) || false) ≡ (p == q)
  close_push_same q sums = or_no (p == q)
    where
      or_no : (b : Bool) → (b || false) ≡ b
      or_no true = refl
      or_no false = refl

  is_same : (q : ℕ) → q ≡ p → (p == q) ≡ true
  is_same q e = eq-eqb p q (sym e)

  isnt_same : (q : ℕ) → (q ≡ p → ⊥) → (p == q) ≡ false
  isnt_same q ne = false_or (p == q) (λ h. ne (sym (eqb-true p q h)))

  -- the next Close
  pub period_close : (sums : Totals) → Periods (items ++ Close p sums ∷ []) nothing (closed ++ running ∷ [])
  period_close sums = record {
    closes = fold_push (λ a x. a + cond (is_any_close x) 1 0) 0 items (Close p sums) ∙ (let h : count_by is_any_close items + 1 ≡ length (closed ++ running ∷ []) = omega (arith, was.closes, length-append closed (running ∷ [])) in h);
    close = λ q. list_any-append (is_close q) items (Close p sums ∷ []) ∙ closes_at q (trichotomy q);
    running_is = sym (ap (λ n. period_totals (items ++ Close p sums ∷ []) n) (let h : length (closed ++ running ∷ []) + 1 ≡ p + 1 = omega (arith, length-append closed (running ∷ [])) in h) ∙ opened);
    closed_are = λ q d low high. closed_at q d low (trichotomy q) high;
  }
    where
      longer : length (closed ++ running ∷ []) ≡ length closed + 1
      longer = length-append closed (running ∷ [])

      trichotomy : (q : ℕ) → (q ≡ p) ⊎ ((q ≡ p → ⊥))
      trichotomy q = ⊎_elim (λ yes. inl (sym (eqb-true p q yes))) (λ no'. inr (λ e. false≢true (sym no' ∙ is_same q e))) (cases_Bool (p == q))

      closes_at : (q : ℕ) → (q ≡ p) ⊎ (q ≡ p → ⊥) → (list_any (is_close q) items || (is_close q (Close p sums) || false)) ≡ (nat_le 1 q && nat_le q (length (closed ++ running ∷ [])))
      closes_at q (inl e) =
          or_right (list_any (is_close q) items) _ (close_push_same q sums ∙ is_same q e)
          ∙ sym (range_from q (length (closed ++ running ∷ [])) (omega (arith, e)) (omega (arith, e, longer)))
      closes_at q (inr ne) =
          ap (λ b. list_any (is_close q) items || b) (close_push_same q sums ∙ isnt_same q ne)
          ∙ (or_nothing (list_any (is_close q) items)
          ∙ (was.close q ∙ ap (λ b. nat_le 1 q && b) (same_range q ne)))
        where
          or_nothing : (b : Bool) → (b || false) ≡ b
          or_nothing true = refl
          or_nothing false = refl

          same_range : (q : ℕ) → (q ≡ p → ⊥) → nat_le q (length closed) ≡ nat_le q (length (closed ++ running ∷ []))
          same_range q ne =
              ⊎_elim
              (λ yes. yes ∙ sym (le-leb q (length (closed ++ running ∷ [])) (omega (arith, leb-true q (length closed) yes, longer))))
              (λ no'. no' ∙ sym (false_or _ (λ h. false≢true (sym no' ∙ le-leb q (length closed) (omega (arith, ne, leb-true q (length (closed ++ running ∷ [])) h, longer))))))
              (cases_Bool (nat_le q (length closed)))

      opened : period_totals (items ++ Close p sums ∷ []) (p + 1) ≡ nothing
      opened =
          let none : list_any (is_close (p + 1)) (items ++ Close p sums ∷ []) ≡ false = list_any-append (is_close (p + 1)) items (Close p sums ∷ []) ∙ (closes_at (p + 1) (inr (λ e. let no' : ⊥ = omega (arith, e) in no')) ∙ false_or (nat_le 1 (p + 1) && nat_le (p + 1) (length (closed ++ running ∷ []))) (λ h. let r = range_of (p + 1) (length (closed ++ running ∷ [])) h in let no' : ⊥ = omega (arith, r.1, longer) in no')) in
          let more : (p + 1 == 1) ≡ false = false_or (p + 1 == 1) (λ h. let no' : ⊥ = omega (arith, eqb-true (p + 1) 1 h) in no') in
          let all = items ++ Close p sums ∷ [] in
          ap sums_of (cond-false (p + 1 == 1) (before_close (p + 1) all) (after_close (p + 1 - 1) (before_close (p + 1) all)) more ∙ (ap (after_close (p + 1 - 1)) (before_none (p + 1) all none) ∙ (let same : p + 1 - 1 ≡ p = omega arith in ap (λ k. after_close k all) same) ∙ after_here p items (Close p sums) none_yet (eq-eqb p p refl)))

      closed_at : (q : ℕ) (d : Totals) → 1 ≤ q → (q ≡ p) ⊎ (q ≡ p → ⊥) → q ≤ length (closed ++ running ∷ []) → slice_index_or (closed ++ running ∷ []) (q - 1) d ≡ period_totals (items ++ Close p sums ∷ []) q
      closed_at q d low (inl e) high =
          (let at : q - 1 ≡ length closed = omega (arith, e) in ap (λ i. slice_index_or (closed ++ running ∷ []) i d) at ∙ last_of closed running d)
          ∙ (was.running_is ∙ (sym (stopped) ∙ ap (λ k. period_totals (items ++ Close p sums ∷ []) k) (sym e)))
        where
          last_of : (xs : List Totals) (y d : Totals) → slice_index_or (xs ++ y ∷ []) (length xs) d ≡ y
          last_of xs y d = get_or-append_seam xs y [] d

          stopped : period_totals (items ++ Close p sums ∷ []) p ≡ period_totals items p
          stopped = ap (λ l. sums_of (cond (p == 1) l (after_close (p - 1) l))) (before_close_here items)
            where
              before_close_here : (xs : List Item) → before_close p (xs ++ Close p sums ∷ []) ≡ before_close p xs
              before_close_here [] = cond-true (p == p) _ _ (eq-eqb p p refl)
              before_close_here (x ∷ xs) = ap (λ l. cond (is_close p x) [] (x ∷ l)) (before_close_here xs)
      closed_at q d low (inr ne) high =
          let within : q ≤ length closed = omega (arith, ne, high, longer) in
          get_or_append_left closed (running ∷ []) d (q - 1) (omega (arith, low, within))
          ∙ (was.closed_are q d low within ∙ sym (period_kept q items (Close p sums ∷ []) (was.close q ∙ range_from q (length closed) low within)))
