-- How the places of captured sales grow with a log whose items fit one after another.
use Rattle.std.proofs.Common.{◌≡◌, ◌⊎◌, ℕ, zero, suc, ◌+◌, ◌-◌, ◌<◌, ◌≤◌, Bool, true, false, cond, not, ◌&&◌, ◌||◌, List, [], ◌∷◌, ◌++◌, length, Option, Some, None, refl, sym, ◌∙◌, ap, subst, inl, inr, ⊎_elim, append_assoc, append-nil, arith, eqb-true, eq-eqb, ne_eqb}
use Rattle.std.specs.Prelude.{◌==◌, slice_get, filter}
use Rattle.std.specs.List.{list_any}
use Rattle.std.proofs.Math.Bool.{or-false}
use Rattle.std.proofs.lemmas.Bool.{cond-true, cond-false, cases_Bool, false≢true, both_ways, and_parts, or_parts, or_cases, or_left, or_right, not-true, false_from_ne_true}
use Rattle.std.proofs.lemmas.List.Folds.{list_any-append}
use Rattle.std.proofs.lemmas.Option.{none-some, same_Some}
use Rattle.cap_base.specs.declared.item.Item.{Item}
use Rattle.cap_base.specs.declared.item.Item.TheVariants.{Sale, Void, Cancel, Close}
use Rattle.cap_base.specs.Item.{is_end, is_cancel, is_sale_where, is_sale_of}
use Rattle.cap_base.specs.Captured.{captured}
use Rattle.cap_base.specs.Fits.{fits, all_fit}
use Rattle.cap_entries.specs.LogSummaryLaws.{captured_sale}
use Rattle.cap_plain.specs.Once.{end_new}
use Rattle.cap_host_index.specs.Places.{sale_place, sale_places, captured_place, captured_places, amount_in}

and_no : (b : Bool) → (b && false) ≡ false
and_no true = refl
and_no false = refl

and_yes : (b : Bool) → (b && true) ≡ b
and_yes true = refl
and_yes false = refl

-- along a list of items that fit one after another
module _ (P : List Item → Type 0) (step : (before : List Item) (item : Item) → P before → fits before item ≡ true → P (before ++ item ∷ [])) where
  pub along : (before items : List Item) → P before → all_fit before items ≡ true → P (before ++ items)
  along before [] h fit = subst P (sym (append-nil before)) h
  along before (item ∷ items) h fit =
      let parts = and_parts (fits before item) (all_fit (before ++ item ∷ []) items) fit in
      subst P (append_assoc before (item ∷ []) items) (along (before ++ item ∷ []) items (step before item h parts.0) parts.1)

-- a Sale with this number
abbrev pub is_sale : ℕ → Item → Bool
is_sale n item = is_sale_where (λ k. k == n) item

sale_ends : (n : ℕ) (item : Item) → is_sale n item ≡ true → is_end n item ≡ true
sale_ends n (Sale k amount account code) e = e
sale_ends n (Void k) e = absurd (false≢true e)
sale_ends n (Cancel k amount) e = absurd (false≢true e)
sale_ends n (Close p totals) e = absurd (false≢true e)

sales_end : (n : ℕ) (items : List Item) → list_any (is_sale n) items ≡ true → list_any (is_end n) items ≡ true
sales_end n [] e = absurd (false≢true e)
sales_end n (item ∷ items) e = ⊎_elim (λ here. or_left _ _ (sale_ends n item here)) (λ later. or_right _ _ (sales_end n items later)) (or_cases _ _ e)

-- no Sale of a number that has no end
pub no_sale : (n : ℕ) (items : List Item) → list_any (is_end n) items ≡ false → list_any (is_sale n) items ≡ false
no_sale n items none = false_from_ne_true _ (λ e. both_ways _ none (sales_end n items e))

sale_of_is_sale : (n a : ℕ) (items : List Item) → list_any (is_sale_of n a) items ≡ true → list_any (is_sale n) items ≡ true
sale_of_is_sale n a [] e = absurd (false≢true e)
sale_of_is_sale n a (Sale k b account code ∷ items) e = ⊎_elim (λ here. or_left _ _ (and_parts (k == n) (b == a) here).0) (λ later. or_right _ _ (sale_of_is_sale n a items later)) (or_cases _ _ e)
sale_of_is_sale n a (Void k ∷ items) e = sale_of_is_sale n a items e
sale_of_is_sale n a (Cancel k b ∷ items) e = sale_of_is_sale n a items e
sale_of_is_sale n a (Close p totals ∷ items) e = sale_of_is_sale n a items e

pub sold_ends : (n a : ℕ) (items : List Item) → list_any (is_sale_of n a) items ≡ true → list_any (is_end n) items ≡ true
sold_ends n a items e = sales_end n items (sale_of_is_sale n a items e)

-- what a Cancel that fits says of the log: its sale is there, and no Cancel of it
pub record CancelFits (log : List Item) (n a : ℕ) : Type 0 where
  pub sold : list_any (is_sale_of n a) log ≡ true
  pub not_cancelled : list_any (is_cancel n) log ≡ false

pub cancel_fits : (log : List Item) (n a : ℕ) → fits log (Cancel n a) ≡ true → CancelFits log n a
cancel_fits log n a fit =
    let parts = and_parts (list_any (is_sale_of n a) log) (not (list_any (is_cancel n) log)) (sym (captured_sale (λ k. not (list_any (is_cancel k) log)) n a log) ∙ fit) in
    record { sold = parts.0; not_cancelled = not-true _ parts.1 }

-- only what was sold is cancelled
abbrev CancelledEnded : List Item → Type 0
CancelledEnded log = (n : ℕ) → list_any (is_cancel n) log ≡ true → list_any (is_end n) log ≡ true

grown_end : (n : ℕ) (log : List Item) (item : Item) → list_any (is_end n) log ≡ true → list_any (is_end n) (log ++ item ∷ []) ≡ true
grown_end n log item e = list_any-append (is_end n) log (item ∷ []) ∙ or_left _ _ e

cancelled_step : (log : List Item) (item : Item) → CancelledEnded log → fits log item ≡ true → CancelledEnded (log ++ item ∷ [])
cancelled_step log (Sale k amount account code) h fit n e =
    ⊎_elim (λ before. grown_end n log (Sale k amount account code) (h n before)) (λ here. absurd (false≢true here)) (or_cases _ _ (sym (list_any-append (is_cancel n) log (Sale k amount account code ∷ [])) ∙ e))
cancelled_step log (Void k) h fit n e =
    ⊎_elim (λ before. grown_end n log (Void k) (h n before)) (λ here. absurd (false≢true here)) (or_cases _ _ (sym (list_any-append (is_cancel n) log (Void k ∷ [])) ∙ e))
cancelled_step log (Close p totals) h fit n e =
    ⊎_elim (λ before. grown_end n log (Close p totals) (h n before)) (λ here. absurd (false≢true here)) (or_cases _ _ (sym (list_any-append (is_cancel n) log (Close p totals ∷ [])) ∙ e))
cancelled_step log (Cancel k amount) h fit n e =
    ⊎_elim
    (λ before. grown_end n log (Cancel k amount) (h n before))
    (λ here.
    let same : k ≡ n = eqb-true k n (sym (or-false (k == n)) ∙ here) in
    grown_end n log (Cancel k amount)
    (subst (λ j. list_any (is_end j) log ≡ true) same (sold_ends k amount log (cancel_fits log k amount fit).sold)))
    (or_cases _ _ (sym (list_any-append (is_cancel n) log (Cancel k amount ∷ [])) ∙ e))

pub cancelled_ended : (log : List Item) → all_fit [] log ≡ true → (n : ℕ) → list_any (is_cancel n) log ≡ true → list_any (is_end n) log ≡ true
cancelled_ended log fit = along CancelledEnded cancelled_step [] log (λ n e. absurd (false≢true e)) fit

pub not_cancelled : (log : List Item) (n : ℕ) → all_fit [] log ≡ true → list_any (is_end n) log ≡ false → list_any (is_cancel n) log ≡ false
not_cancelled log n fit none = false_from_ne_true _ (λ e. both_ways _ none (cancelled_ended log fit n e))

-- numbers of items that fit behind a list are new to it
pub ended_new : (before items : List Item) (n : ℕ) → all_fit before items ≡ true → list_any (is_end n) items ≡ true → list_any (is_end n) before ≡ false
ended_new before [] n fit e = absurd (false≢true e)
ended_new before (item ∷ items) n fit e =
    let parts = and_parts (fits before item) (all_fit (before ++ item ∷ []) items) fit in
    ⊎_elim
    (λ here. end_new n before item parts.0 here)
    (λ later. (or_parts (list_any (is_end n) before) (list_any (is_end n) (item ∷ [])) (sym (list_any-append (is_end n) before (item ∷ [])) ∙ ended_new (before ++ item ∷ []) items n parts.1 later)).0)
    (or_cases (is_end n item) (list_any (is_end n) items) e)

-- the first of two options that is there
abbrev pub first_some : Option ℕ → Option ℕ → Option ℕ
first_some None other = other
first_some (Some i) other = Some i

pub sale_place-append : (i n : ℕ) (xs ys : List Item) → sale_place i n (xs ++ ys) ≡ first_some (sale_place i n xs) (sale_place (i + length xs) n ys)
sale_place-append i n [] ys = ap (λ j. sale_place j n ys) (let same : i ≡ i + 0 = omega arith in same)
sale_place-append i n (x ∷ xs) ys =
    ⊎_elim
    (λ yes. cond-true (is_sale n x) _ _ yes ∙ sym (ap (λ o. first_some o (sale_place (i + suc (length xs)) n ys)) (cond-true (is_sale n x) _ _ yes)))
    (λ no'. cond-false (is_sale n x) _ _ no' ∙ (sale_place-append (suc i) n xs ys ∙ (ap (λ j. first_some (sale_place (suc i) n xs) (sale_place j n ys)) (let same : suc i + length xs ≡ i + suc (length xs) = omega arith in same)
    ∙ sym (ap (λ o. first_some o (sale_place (i + suc (length xs)) n ys)) (cond-false (is_sale n x) _ _ no')))))
    (cases_Bool (is_sale n x))

pub sale_place_none : (i n : ℕ) (xs : List Item) → list_any (is_sale n) xs ≡ false → sale_place i n xs ≡ None
sale_place_none i n [] e = refl
sale_place_none i n (x ∷ xs) e =
    let parts = or_parts (is_sale n x) (list_any (is_sale n) xs) e in
    cond-false (is_sale n x) _ _ parts.0 ∙ sale_place_none (suc i) n xs parts.1

pub sale_places-append : (i : ℕ) (test : ℕ → Bool) (xs ys : List Item) → sale_places i test (xs ++ ys) ≡ sale_places i test xs ++ sale_places (i + length xs) test ys
sale_places-append i test [] ys = ap (λ j. sale_places j test ys) (let same : i ≡ i + 0 = omega arith in same)
sale_places-append i test (x ∷ xs) ys =
    let rest = sale_places-append (suc i) test xs ys ∙ ap (λ j. sale_places (suc i) test xs ++ sale_places j test ys) (let same : suc i + length xs ≡ i + suc (length xs) = omega arith in same) in
    ⊎_elim
    (λ yes. cond-true (is_sale_where test x) _ _ yes ∙ (ap (λ l. i ∷ l) rest ∙ sym (ap (λ l. l ++ sale_places (i + suc (length xs)) test ys) (cond-true (is_sale_where test x) _ _ yes))))
    (λ no'. cond-false (is_sale_where test x) _ _ no' ∙ (rest ∙ sym (ap (λ l. l ++ sale_places (i + suc (length xs)) test ys) (cond-false (is_sale_where test x) _ _ no'))))
    (cases_Bool (is_sale_where test x))

-- two tests that agree at each number have the same places
pub sale_places_agree : (i : ℕ) (p q : ℕ → Bool) → ((n : ℕ) → p n ≡ q n) → (xs : List Item) → sale_places i p xs ≡ sale_places i q xs
sale_places_agree i p q same [] = refl
sale_places_agree i p q same (Sale k amount account code ∷ xs) =
    ap (λ b. cond b (i ∷ sale_places (suc i) p xs) (sale_places (suc i) p xs)) (same k)
    ∙ ap (λ l. cond (q k) (i ∷ l) l) (sale_places_agree (suc i) p q same xs)
sale_places_agree i p q same (Void k ∷ xs) = sale_places_agree (suc i) p q same xs
sale_places_agree i p q same (Cancel k amount ∷ xs) = sale_places_agree (suc i) p q same xs
sale_places_agree i p q same (Close period totals ∷ xs) = sale_places_agree (suc i) p q same xs

-- places count up
abbrev above : ℕ → ℕ → Bool
above p q = not (q == p)

filter_past : (i p : ℕ) (test : ℕ → Bool) (xs : List Item) → p < i → filter (above p) (sale_places i test xs) ≡ sale_places i test xs
filter_past i p test [] h = refl
filter_past i p test (x ∷ xs) h =
    let later = filter_past (suc i) p test xs (omega (arith, h)) in
    let other : above p i ≡ true = ap not (ne_eqb i p (λ e. let no' : ⊥ = omega (arith, e, h) in no')) in
    ⊎_elim
    (λ yes. ap (filter (above p)) (cond-true (is_sale_where test x) _ _ yes) ∙ (cond-true (above p i) _ _ other ∙ (ap (λ l. i ∷ l) later ∙ sym (cond-true (is_sale_where test x) _ _ yes))))
    (λ no'. ap (filter (above p)) (cond-false (is_sale_where test x) _ _ no') ∙ (later ∙ sym (cond-false (is_sale_where test x) _ _ no')))
    (cases_Bool (is_sale_where test x))

-- without number n, where the list has no Sale of it
abbrev pub but : ℕ → (ℕ → Bool) → ℕ → Bool
but n test k = test k && not (n == k)

same_without : (i n : ℕ) (test : ℕ → Bool) (xs : List Item) → list_any (is_end n) xs ≡ false → sale_places i (but n test) xs ≡ sale_places i test xs
same_without i n test [] e = refl
same_without i n test (Sale k amount account code ∷ xs) e =
    let parts = or_parts (k == n) (list_any (is_end n) xs) e in
    let other : (n == k) ≡ false = ne_eqb n k (λ same. both_ways _ parts.0 (eq-eqb k n (sym same))) in
    ap (λ b. cond (test k && not b) (i ∷ sale_places (suc i) (but n test) xs) (sale_places (suc i) (but n test) xs)) other
    ∙ (ap (λ b. cond b (i ∷ sale_places (suc i) (but n test) xs) (sale_places (suc i) (but n test) xs)) (and_yes (test k))
    ∙ ap (λ l. cond (test k) (i ∷ l) l) (same_without (suc i) n test xs parts.1))
same_without i n test (Void k ∷ xs) e = same_without (suc i) n test xs (or_parts (k == n) (list_any (is_end n) xs) e).1
same_without i n test (Cancel k amount ∷ xs) e = same_without (suc i) n test xs e
same_without i n test (Close p totals ∷ xs) e = same_without (suc i) n test xs e

-- an item more than once with this number: never in a list whose items fit
abbrev EndsOnce : ℕ → List Item → Type 0
EndsOnce n [] = Unit {0}
EndsOnce n (item ∷ items) = (is_end n item ≡ true → list_any (is_end n) items ≡ false) × EndsOnce n items

ends_once-append : (n : ℕ) (xs : List Item) (y : Item) → EndsOnce n xs → (is_end n y ≡ true → list_any (is_end n) xs ≡ false) → EndsOnce n (xs ++ y ∷ [])
ends_once-append n [] y h new = ((λ e. refl), tt)
ends_once-append n (x ∷ xs) y h new = (
  (λ e.
      let none = h.0 e in
      ⊎_elim
      (λ yes. absurd (both_ways _ (or_parts (is_end n x) (list_any (is_end n) xs) (new yes)).0 e))
      (λ no'. list_any-append (is_end n) xs (y ∷ []) ∙ (ap (λ b. b || (is_end n y || false)) none ∙ ap (λ b. b || false) no'))
      (cases_Bool (is_end n y))),
  ends_once-append n xs y h.1 (λ yes. (or_parts (is_end n x) (list_any (is_end n) xs) (new yes)).1),
)

pub ends_once : (n : ℕ) (log : List Item) → all_fit [] log ≡ true → EndsOnce n log
ends_once n log fit = along (EndsOnce n) (λ before item h fits'. ends_once-append n before item h (λ e. end_new n before item fits' e)) [] log tt fit

-- the sale that is cancelled stands first: its place goes
dropped : (i p : ℕ) (test : ℕ → Bool) (xs : List Item) → i ≡ p → (b : Bool) → filter (above p) (cond b (i ∷ sale_places (suc i) test xs) (sale_places (suc i) test xs)) ≡ sale_places (suc i) test xs
dropped i p test xs here true = cond-false (above p i) _ _ (ap not (eq-eqb i p here)) ∙ filter_past (suc i) p test xs (omega (arith, here))
dropped i p test xs here false = filter_past (suc i) p test xs (omega (arith, here))

-- it stands later: the first place stays
kept_first : (i p : ℕ) (test : ℕ → Bool) (xs : List Item) → suc i ≤ p → (b : Bool) → cond b (i ∷ filter (above p) (sale_places (suc i) test xs)) (filter (above p) (sale_places (suc i) test xs)) ≡ filter (above p) (cond b (i ∷ sale_places (suc i) test xs) (sale_places (suc i) test xs))
kept_first i p test xs h true = sym (cond-true (above p i) _ _ (ap not (ne_eqb i p (λ same. let no'' : ⊥ = omega (arith, same, h) in no''))))
kept_first i p test xs h false = refl

without_sale : (i n p : ℕ) (test : ℕ → Bool) (k amount : ℕ) (account code : List ℕ) (xs : List Item) → EndsOnce n (Sale k amount account code ∷ xs) → sale_place i n (Sale k amount account code ∷ xs) ≡ Some p
    → (sale_place (suc i) n xs ≡ Some p → (suc i ≤ p) × (sale_places (suc i) (but n test) xs ≡ filter (above p) (sale_places (suc i) test xs)))
    → ((k == n) ≡ true) ⊎ ((k == n) ≡ false) → (i ≤ p) × (sale_places i (but n test) (Sale k amount account code ∷ xs) ≡ filter (above p) (sale_places i test (Sale k amount account code ∷ xs)))
without_sale i n p test k amount account code xs once e later (inl equal) =
    let here : i ≡ p = same_Some i p (sym (cond-true (k == n) _ _ equal) ∙ e) in
    let is : (n == k) ≡ true = eq-eqb n k (sym (eqb-true k n equal)) in
    let gone : (test k && not (n == k)) ≡ false = ap (λ b. test k && not b) is ∙ and_no (test k) in
    (omega (arith, here), cond-false (test k && not (n == k)) _ _ gone ∙ (same_without (suc i) n test xs (once.0 equal) ∙ sym (dropped i p test xs here (test k))))
without_sale i n p test k amount account code xs once e later (inr unequal) =
    let rest = later (sym (cond-false (k == n) _ _ unequal) ∙ e) in
    let other : (n == k) ≡ false = ne_eqb n k (λ same. both_ways _ unequal (eq-eqb k n (sym same))) in (
      omega (arith, rest.0),
      ap (λ b. cond b (i ∷ sale_places (suc i) (but n test) xs) (sale_places (suc i) (but n test) xs)) (ap (λ b. test k && not b) other ∙ and_yes (test k))
          ∙ (ap (λ l. cond (test k) (i ∷ l) l) rest.1 ∙ kept_first i p test xs rest.0 (test k)),
    )

-- a sale that is cancelled loses its place
without_place : (i n p : ℕ) (test : ℕ → Bool) (xs : List Item) → EndsOnce n xs → sale_place i n xs ≡ Some p → (i ≤ p) × (sale_places i (but n test) xs ≡ filter (above p) (sale_places i test xs))
without_place i n p test [] once e = absurd (none-some p e)
without_place i n p test (Void k ∷ xs) once e = let later = without_place (suc i) n p test xs once.1 e in (omega (arith, later.0), later.1)
without_place i n p test (Cancel k amount ∷ xs) once e = let later = without_place (suc i) n p test xs once.1 e in (omega (arith, later.0), later.1)
without_place i n p test (Close period totals ∷ xs) once e = let later = without_place (suc i) n p test xs once.1 e in (omega (arith, later.0), later.1)
without_place i n p test (Sale k amount account code ∷ xs) once e =
    without_sale i n p test k amount account code xs once e (λ later. without_place (suc i) n p test xs once.1 later) (cases_Bool (k == n))

plain_place : (log : List Item) (n : ℕ) → captured_place log n ≡ cond (list_any (is_cancel n) log) None (sale_place 0 n log)
plain_place log n = ap (λ l. cond (list_any (is_cancel n) log) None (sale_place 0 n l)) (append-nil log)

-- the captured places of a log with one item more
pub captured_places_cancel : (log : List Item) (n a p : ℕ) → all_fit [] log ≡ true → fits log (Cancel n a) ≡ true → captured_place log n ≡ Some p → captured_places (log ++ Cancel n a ∷ []) ≡ filter (λ q. not (q == p)) (captured_places log)
captured_places_cancel log n a p fit fits' at =
    let c = cancel_fits log n a fits' in
    let place : sale_place 0 n log ≡ Some p = sym (cond-false (list_any (is_cancel n) log) _ _ c.not_cancelled) ∙ (sym (plain_place log n) ∙ at) in
    sale_places_agree 0 (λ k. not (list_any (is_cancel k) (log ++ Cancel n a ∷ []))) (but n (λ k. not (list_any (is_cancel k) log))) (λ k. ap not (list_any-append (is_cancel k) log (Cancel n a ∷ [])) ∙ (ap (λ b. not (list_any (is_cancel k) log || b)) (or-false (n == k)) ∙ not_or (list_any (is_cancel k) log) (n == k))) (log ++ Cancel n a ∷ [])
    ∙ (sale_places-append 0 (but n (λ k. not (list_any (is_cancel k) log))) log (Cancel n a ∷ [])
    ∙ (append-nil _ ∙ (without_place 0 n p (λ k. not (list_any (is_cancel k) log)) log (ends_once n log fit) place).1))
  where
    not_or : (x y : Bool) → not (x || y) ≡ (not x && not y)
    not_or true y = refl
    not_or false y = refl

grown_cancel : (k : ℕ) (log : List Item) (item : Item) → ((n : ℕ) → is_cancel n item ≡ false) → list_any (is_cancel k) (log ++ item ∷ []) ≡ list_any (is_cancel k) log
grown_cancel k log item other = list_any-append (is_cancel k) log (item ∷ []) ∙ (ap (λ b. list_any (is_cancel k) log || (b || false)) (other k) ∙ or-false (list_any (is_cancel k) log))

pub captured_places_other : (log : List Item) (item : Item) → ((n : ℕ) → is_cancel n item ≡ false) → captured_places (log ++ item ∷ []) ≡ captured_places log ++ sale_places (length log) (λ n. not (list_any (is_cancel n) log)) (item ∷ [])
captured_places_other log item other =
    sale_places_agree 0 (λ n. not (list_any (is_cancel n) (log ++ item ∷ []))) (λ n. not (list_any (is_cancel n) log)) (λ n. ap not (grown_cancel n log item other)) (log ++ item ∷ [])
    ∙ (sale_places-append 0 (λ n. not (list_any (is_cancel n) log)) log (item ∷ [])
    ∙ ap (λ j. captured_places log ++ sale_places j (λ n. not (list_any (is_cancel n) log)) (item ∷ [])) (let same : 0 + length log ≡ length log = omega arith in same))

pub length-sale_places : (i : ℕ) (test : ℕ → Bool) (xs : List Item) → length (sale_places i test xs) ≡ length (filter (is_sale_where test) xs)
length-sale_places i test [] = refl
length-sale_places i test (x ∷ xs) =
    ⊎_elim
    (λ yes. ap length (cond-true (is_sale_where test x) _ _ yes) ∙ (ap suc (length-sale_places (suc i) test xs) ∙ sym (ap length (cond-true (is_sale_where test x) _ _ yes))))
    (λ no'. ap length (cond-false (is_sale_where test x) _ _ no') ∙ (length-sale_places (suc i) test xs ∙ sym (ap length (cond-false (is_sale_where test x) _ _ no'))))
    (cases_Bool (is_sale_where test x))

-- the item at this place, where places count on from i
record IsAt (i : ℕ) (xs : List Item) (p : ℕ) (item : Item) : Type 0 where
  from : i ≤ p
  there : slice_get xs (p - i) ≡ Some item

later_at : (i : ℕ) (x : Item) (xs : List Item) (p : ℕ) (item : Item) → IsAt (suc i) xs p item → IsAt i (x ∷ xs) p item
later_at i x xs p item h = record {
  from = omega (arith, h.from);
  there = ap (λ k. slice_get (x ∷ xs) k) (let back : p - i ≡ suc (p - suc i) = omega (arith, h.from) in back) ∙ h.there;
}

here_at : (i : ℕ) (x : Item) (xs : List Item) (p : ℕ) → i ≡ p → IsAt i (x ∷ xs) p x
here_at i x xs p e = record {
  from = omega (arith, e);
  there = ap (λ k. slice_get (x ∷ xs) k) (let none : p - i ≡ 0 = omega (arith, e) in none);
}

abbrev SaleAtPlace : ℕ → (ℕ → Bool) → List Item → ℕ → ℕ → Type 0
SaleAtPlace i test xs k p = (item : Item) × IsAt i xs p item × (slice_get (filter (is_sale_where test) xs) k ≡ Some item)

first_or_later : (i : ℕ) (test : ℕ → Bool) (x : Item) (xs : List Item) (k p : ℕ) → ((j : ℕ) → slice_get (sale_places (suc i) test xs) j ≡ Some p → SaleAtPlace (suc i) test xs j p)
    → (j : ℕ) → slice_get (i ∷ sale_places (suc i) test xs) j ≡ Some p → slice_get (filter (is_sale_where test) (x ∷ xs)) k ≡ slice_get (x ∷ filter (is_sale_where test) xs) j → SaleAtPlace i test (x ∷ xs) k p
first_or_later i test x xs k p later zero f same = (x, here_at i x xs p (same_Some i p f), same)
first_or_later i test x xs k p later (suc j) f same = let rest = later j f in (rest.0, later_at i x xs p rest.0 rest.1, same ∙ rest.2)

sale_at_in : (i : ℕ) (test : ℕ → Bool) (x : Item) (xs : List Item) (k p : ℕ) → slice_get (sale_places i test (x ∷ xs)) k ≡ Some p → ((j : ℕ) → slice_get (sale_places (suc i) test xs) j ≡ Some p → SaleAtPlace (suc i) test xs j p)
    → (is_sale_where test x ≡ true) ⊎ (is_sale_where test x ≡ false) → SaleAtPlace i test (x ∷ xs) k p
sale_at_in i test x xs k p e later (inl passes) =
    first_or_later i test x xs k p later k (sym (ap (λ (l : List ℕ). slice_get l k) (cond-true (is_sale_where test x) _ _ passes)) ∙ e) (ap (λ (l : List Item). slice_get l k) (cond-true (is_sale_where test x) _ _ passes))
sale_at_in i test x xs k p e later (inr fails) =
    let rest = later k (sym (ap (λ (l : List ℕ). slice_get l k) (cond-false (is_sale_where test x) _ _ fails)) ∙ e) in
    (rest.0, later_at i x xs p rest.0 rest.1, ap (λ (l : List Item). slice_get l k) (cond-false (is_sale_where test x) _ _ fails) ∙ rest.2)

-- the captured sale that place k of them names
sale_at : (i : ℕ) (test : ℕ → Bool) (xs : List Item) (k p : ℕ) → slice_get (sale_places i test xs) k ≡ Some p → SaleAtPlace i test xs k p
sale_at i test [] k p e = absurd (none-some p e)
sale_at i test (x ∷ xs) k p e = sale_at_in i test x xs k p e (λ j later. sale_at (suc i) test xs j p later) (cases_Bool (is_sale_where test x))

-- captured sale k of a log is the item at place k of them
pub record CapturedAt (log : List Item) (k p : ℕ) : Type 0 where
  pub item : Item
  pub there : slice_get log p ≡ Some item
  pub is_captured : slice_get (captured log) k ≡ Some item

pub captured_at : (log : List Item) (k p : ℕ) → slice_get (captured_places log) k ≡ Some p → CapturedAt log k p
captured_at log k p e =
    let found = sale_at 0 (λ n. not (list_any (is_cancel n) log)) log k p e in
    record { item = found.0; there = ap (λ j. slice_get log j) (let same : p ≡ p - 0 = omega arith in same) ∙ found.1.there; is_captured = found.2 }

pub length-captured_places : (log : List Item) → length (captured_places log) ≡ length (captured log)
length-captured_places log = length-sale_places 0 (λ n. not (list_any (is_cancel n) log)) log

sale_matches : (n a : ℕ) (item : Item) → is_sale n item ≡ true → is_sale_of n a item ≡ (amount_in item == a)
sale_matches n a (Sale k amount account code) e = ap (λ b. b && (amount == a)) e
sale_matches n a (Void k) e = absurd (false≢true e)
sale_matches n a (Cancel k amount) e = absurd (false≢true e)
sale_matches n a (Close p totals) e = absurd (false≢true e)

isnt_sale_of : (n a : ℕ) (item : Item) → is_sale n item ≡ false → is_sale_of n a item ≡ false
isnt_sale_of n a (Sale k amount account code) e = ap (λ b. b && (amount == a)) e
isnt_sale_of n a (Void k) e = refl
isnt_sale_of n a (Cancel k amount) e = refl
isnt_sale_of n a (Close p totals) e = refl

no_sale_of : (n a : ℕ) (items : List Item) → list_any (is_end n) items ≡ false → list_any (is_sale_of n a) items ≡ false
no_sale_of n a items none = false_from_ne_true _ (λ e. both_ways _ none (sales_end n items (sale_of_is_sale n a items e)))

abbrev SaleFound : ℕ → ℕ → ℕ → List Item → Type 0
SaleFound i n p xs = (item : Item) × IsAt i xs p item × (is_sale n item ≡ true) × ((a : ℕ) → list_any (is_sale_of n a) xs ≡ (amount_in item == a))

sale_found_in : (i n p : ℕ) (x : Item) (xs : List Item) → EndsOnce n (x ∷ xs) → sale_place i n (x ∷ xs) ≡ Some p → (sale_place (suc i) n xs ≡ Some p → SaleFound (suc i) n p xs) → (is_sale n x ≡ true) ⊎ (is_sale n x ≡ false) → SaleFound i n p (x ∷ xs)
sale_found_in i n p x xs once e later (inl sells) = (
  x,
  here_at i x xs p (same_Some i p (sym (cond-true (is_sale n x) _ _ sells) ∙ e)),
  sells,
  λ a. ap (λ b. b || list_any (is_sale_of n a) xs) (sale_matches n a x sells) ∙ (ap (λ b. (amount_in x == a) || b) (no_sale_of n a xs (once.0 (sale_ends n x sells))) ∙ or-false (amount_in x == a)),
)
sale_found_in i n p x xs once e later (inr other) =
    let rest = later (sym (cond-false (is_sale n x) _ _ other) ∙ e) in
    (rest.0, later_at i x xs p rest.0 rest.1, rest.2, λ a. ap (λ b. b || list_any (is_sale_of n a) xs) (isnt_sale_of n a x other) ∙ rest.3 a)

-- the Sale that its place names, the only one
sale_found : (i n p : ℕ) (xs : List Item) → EndsOnce n xs → sale_place i n xs ≡ Some p → SaleFound i n p xs
sale_found i n p [] once e = absurd (none-some p e)
sale_found i n p (x ∷ xs) once e = sale_found_in i n p x xs once e (λ later. sale_found (suc i) n p xs once.1 later) (cases_Bool (is_sale n x))

sale_missing_in : (i n : ℕ) (x : Item) (xs : List Item) → sale_place i n (x ∷ xs) ≡ None → (sale_place (suc i) n xs ≡ None → list_any (is_sale n) xs ≡ false) → (is_sale n x ≡ true) ⊎ (is_sale n x ≡ false) → list_any (is_sale n) (x ∷ xs) ≡ false
sale_missing_in i n x xs e later (inl sells) = absurd (none-some i (sym (sym (cond-true (is_sale n x) _ _ sells) ∙ e)))
sale_missing_in i n x xs e later (inr other) = ap (λ b. b || list_any (is_sale n) xs) other ∙ later (sym (cond-false (is_sale n x) _ _ other) ∙ e)

sale_missing : (i n : ℕ) (xs : List Item) → sale_place i n xs ≡ None → list_any (is_sale n) xs ≡ false
sale_missing i n [] e = refl
sale_missing i n (x ∷ xs) e = sale_missing_in i n x xs e (λ later. sale_missing (suc i) n xs later) (cases_Bool (is_sale n x))

-- the captured sale with this number stands at its place, and no other amount of it is captured
pub record SaleAt (log : List Item) (n p : ℕ) : Type 0 where
  pub item : Item
  pub there : slice_get log p ≡ Some item
  pub amount : (a : ℕ) → list_any (is_sale_of n a) (captured log) ≡ (amount_in item == a)

captured_if : (log : List Item) (n a : ℕ) → list_any (is_sale_of n a) (captured log) ≡ (list_any (is_sale_of n a) log && not (list_any (is_cancel n) log))
captured_if log n a = captured_sale (λ k. not (list_any (is_cancel k) log)) n a log

pub captured_place_at : (log : List Item) (n p : ℕ) → all_fit [] log ≡ true → captured_place log n ≡ Some p → SaleAt log n p
captured_place_at log n p fit e = split (cases_Bool (list_any (is_cancel n) log))
  where
    split : (list_any (is_cancel n) log ≡ true) ⊎ (list_any (is_cancel n) log ≡ false) → SaleAt log n p
    split (inl gone) = absurd (none-some p (sym (cond-true (list_any (is_cancel n) log) _ _ gone) ∙ (sym (plain_place log n) ∙ e)))
    split (inr no') =
        let found = sale_found 0 n p log (ends_once n log fit) (sym (cond-false (list_any (is_cancel n) log) _ _ no') ∙ (sym (plain_place log n) ∙ e)) in
        record {
          item = found.0;
          there = ap (λ j. slice_get log j) (let same : p ≡ p - 0 = omega arith in same) ∙ found.1.there;
          amount = λ a. captured_if log n a ∙ (ap (λ b. list_any (is_sale_of n a) log && not b) no' ∙ (and_yes (list_any (is_sale_of n a) log) ∙ found.3 a));
        }

pub captured_place_none : (log : List Item) (n a : ℕ) → captured_place log n ≡ None → list_any (is_sale_of n a) (captured log) ≡ false
captured_place_none log n a e = captured_if log n a ∙ split (cases_Bool (list_any (is_cancel n) log))
  where
    split : (list_any (is_cancel n) log ≡ true) ⊎ (list_any (is_cancel n) log ≡ false) → (list_any (is_sale_of n a) log && not (list_any (is_cancel n) log)) ≡ false
    split (inl gone) = ap (λ b. list_any (is_sale_of n a) log && not b) gone ∙ and_no (list_any (is_sale_of n a) log)
    split (inr no') =
        let none = sale_missing 0 n log (sym (cond-false (list_any (is_cancel n) log) _ _ no') ∙ (sym (plain_place log n) ∙ e)) in
        ap (λ b. b && not (list_any (is_cancel n) log)) (false_from_ne_true _ (λ yes. both_ways _ none (sale_of_is_sale n a log yes)))
