-- A legal journal's items fit one after another, and each Close has the totals of what stands before it.
use Rattle.std.proofs.Common.{◌≡◌, ◌⊎◌, ℕ, ◌+◌, ◌-◌, ◌≤◌, Bool, true, cond, not, ◌&&◌, List, [], ◌∷◌, ◌++◌, refl, sym, ◌∙◌, ap, subst, inl, inr, ⊎_elim, append_assoc, append-nil, arith, eq-eqb, eqb-true, leb-true, le-leb}
use Rattle.std.specs.Prelude.{count_by, filter, ◌==◌, nat_le, bytes_eq}
use Rattle.std.specs.List.{list_any}
use Rattle.std.proofs.lemmas.Bool.{cond-true, cond-false, cases_Bool, false≢true, and_parts, and_from, or_cases, or_left, or_right, not-true, not_from_false, false_from_ne_true}
use Rattle.std.proofs.Math.Bool.{or-false}
use Rattle.std.proofs.lemmas.List.Sums.{fold_push}
use Rattle.std.proofs.lemmas.List.Folds.{list_any-append}
use Rattle.cap_base.specs.declared.item.Totals.{Totals}
use Rattle.cap_base.specs.declared.item.Item.{Item}
use Rattle.cap_base.specs.declared.item.Item.TheVariants.{Sale, Void, Cancel, Close}
use Rattle.cap_entries.specs.declared.terminal.TermEntry.{TermEntry}
use Rattle.cap_entries.specs.declared.terminal.TermEntry.TheVariants.{Setup, Begin, Declined, Completed, Voided, Cancelled, Closed, Acked, Part as Part_entry}
use Rattle.cap_base.specs.Captured.{sums_of, before_close, after_close, period_totals, totals}
use Rattle.cap_base.specs.Item.{is_end, is_close, is_any_close, is_sale_where, is_sale_of}
use Rattle.cap_base.specs.Fits.{is_number, all_fit}
use Rattle.cap_entries.specs.Entry.{is_any_begin, is_begin, ends, completes, is_any_closed, is_pending, is_completed, is_cancelled, amount_of, account_of, max_of, is_setup}
use Rattle.cap_entries.specs.Items.{items_after, items_from, items}
use Rattle.cap_plain.specs.KeptSales.{sale_of, sales_from}
use Rattle.cap_entries.specs.Allowed.{allowed, all_allowed}
use Rattle.cap_plain.specs.KeptLaws.{captured_items}
use Rattle.cap_entries.specs.FitsLaws.{all_fit-append}
use Rattle.cap_entries.specs.AllowedLaws.{along, allowed_is}
use Rattle.cap_entries.specs.ItemsLaws.{items-push}

-- an item that ends a sale is an entry that ends it
ends_after : (n : ℕ) (before : List TermEntry) (items : List Item) (entry : TermEntry) → list_any (is_end n) (items_after before items entry) ≡ true → (list_any (is_end n) items ≡ true) ⊎ (ends n entry ≡ true)
ends_after n before items (Setup setup) e = inl e
ends_after n before items (Begin k amount account) e = inl e
ends_after n before items (Declined k) e = inl e
ends_after n before items (Completed k code) e =
    ⊎_elim (λ h. inl h) (λ h. inr (rw or-false at h)) (or_cases _ _ (sym (list_any-append (is_end n) items (Sale k (amount_of before k) (account_of before k) code ∷ [])) ∙ e))
ends_after n before items (Voided k) e =
    ⊎_elim (λ h. inl h) (λ h. inr (rw or-false at h)) (or_cases _ _ (sym (list_any-append (is_end n) items (Void k ∷ [])) ∙ e))
ends_after n before items (Cancelled k) e =
    ⊎_elim (λ h. inl h) (λ h. absurd (false≢true h)) (or_cases _ _ (sym (list_any-append (is_end n) items (Cancel k (amount_of before k) ∷ [])) ∙ e))
ends_after n before items (Closed p) e =
    ⊎_elim (λ h. inl h) (λ h. absurd (false≢true h)) (or_cases _ _ (sym (list_any-append (is_end n) items (Close p (period_totals items p) ∷ [])) ∙ e))
ends_after n before items (Acked k) e = inl e
ends_after n before items (Part_entry part) e = inl e

-- as many Closes as Closed entries
closes_after : (before : List TermEntry) (items : List Item) (entry : TermEntry) → count_by is_any_close (items_after before items entry) ≡ count_by is_any_close items + cond (is_any_closed entry) 1 0
closes_after before items (Setup setup) = omega arith
closes_after before items (Begin k amount account) = omega arith
closes_after before items (Declined k) = omega arith
closes_after before items (Completed k code) = fold_push _ 0 items _
closes_after before items (Voided k) = fold_push _ 0 items _
closes_after before items (Cancelled k) = fold_push _ 0 items _
closes_after before items (Closed p) = fold_push _ 0 items _
closes_after before items (Acked k) = omega arith
closes_after before items (Part_entry part) = omega arith

-- what holds of the journal as far as it goes
pub record Journaled (before : List TermEntry) : Type 0 where
  pub ended : (n : ℕ) → list_any (is_end n) (items before) ≡ true → list_any (ends n) before ≡ true
  pub closes : count_by is_any_close (items before) ≡ count_by is_any_closed before
  pub numbers : max_of before ≤ 250000 → (n : ℕ) → list_any (is_begin n) before ≡ true → is_number n ≡ true
  -- a completed sale has its amount
  pub sale : (n : ℕ) → is_completed before n ≡ true → (list_any (is_begin n) before ≡ true) × (list_any (is_sale_of n (amount_of before n)) (sales_from [] before) ≡ true)

max_of_push : (before : List TermEntry) (entry : TermEntry) → max_of before ≤ max_of (before ++ entry ∷ [])
max_of_push [] entry = omega arith
max_of_push (Setup setup ∷ rest) entry = omega arith
max_of_push (Begin k amount account ∷ rest) entry = omega arith
max_of_push (Declined k ∷ rest) entry = omega arith
max_of_push (Completed k code ∷ rest) entry = omega arith
max_of_push (Voided k ∷ rest) entry = omega arith
max_of_push (Cancelled k ∷ rest) entry = omega arith
max_of_push (Closed k ∷ rest) entry = omega arith
max_of_push (Acked k ∷ rest) entry = omega arith
max_of_push (Part_entry part ∷ rest) entry = omega arith

any_push : (p : TermEntry → Bool) (before : List TermEntry) (entry : TermEntry) → list_any p (before ++ entry ∷ []) ≡ true → (list_any p before ≡ true) ⊎ (p entry ≡ true)
any_push p before entry e = ⊎_elim (λ h. inl h) (λ h. inr (rw or-false at h)) (or_cases _ _ (sym (list_any-append p before (entry ∷ [])) ∙ e))

any_kept : (p : TermEntry → Bool) (before more : List TermEntry) → list_any p before ≡ true → list_any p (before ++ more) ≡ true
any_kept p before more e = list_any-append p before more ∙ or_left _ _ e

any_here : (p : TermEntry → Bool) (before : List TermEntry) (entry : TermEntry) → p entry ≡ true → list_any p (before ++ entry ∷ []) ≡ true
any_here p before entry e = list_any-append p before (entry ∷ []) ∙ or_right _ _ (or_left _ _ e)

-- the amount of a sale that was begun stays
pub amount_of-append : (before more : List TermEntry) (n : ℕ) → list_any (is_begin n) before ≡ true → amount_of (before ++ more) n ≡ amount_of before n
amount_of-append [] more n e = absurd (false≢true e)
amount_of-append (Begin k amount account ∷ rest) more n e =
    ⊎_elim (λ yes. cond-true (k == n) _ _ yes ∙ sym (cond-true (k == n) _ _ yes))
    (λ no. cond-false (k == n) _ _ no ∙ (amount_of-append rest more n (rw no at e) ∙ sym (cond-false (k == n) _ _ no)))
    (cases_Bool (k == n))
amount_of-append (Setup setup ∷ rest) more n e = amount_of-append rest more n e
amount_of-append (Declined k ∷ rest) more n e = amount_of-append rest more n e
amount_of-append (Completed k code ∷ rest) more n e = amount_of-append rest more n e
amount_of-append (Voided k ∷ rest) more n e = amount_of-append rest more n e
amount_of-append (Cancelled k ∷ rest) more n e = amount_of-append rest more n e
amount_of-append (Closed k ∷ rest) more n e = amount_of-append rest more n e
amount_of-append (Acked k ∷ rest) more n e = amount_of-append rest more n e
amount_of-append (Part_entry part ∷ rest) more n e = amount_of-append rest more n e

sales_from-append : (before es fs : List TermEntry) → sales_from before (es ++ fs) ≡ sales_from before es ++ sales_from (before ++ es) fs
sales_from-append before [] fs = rw append-nil refl
sales_from-append before (e ∷ es) fs =
    ap (λ l. sale_of before e ++ l) (sales_from-append (before ++ e ∷ []) es fs ∙ ap (λ l. sales_from (before ++ e ∷ []) es ++ sales_from l fs) (append_assoc before (e ∷ []) es))
    ∙ sym (append_assoc (sale_of before e) (sales_from (before ++ e ∷ []) es) _)

begin_number : (before : List TermEntry) (entry : TermEntry) (n : ℕ) → max_of before ≤ 250000 → allowed before entry ≡ true → is_begin n entry ≡ true → is_number n ≡ true
begin_number before (Begin k amount account) n le ok e =
    let parts = and_parts (k == count_by is_any_begin before + 1) (nat_le k (max_of before)) (allowed_is before (Begin k amount account) refl ok) in
    let low : 1 ≤ k = omega (arith, eqb-true k _ parts.0) in
    let high : k ≤ 250000 = omega (arith, leb-true k _ parts.1) in
    subst (λ j. is_number j ≡ true) (eqb-true k n e) (and_from _ _ (le-leb 1 k low) (le-leb k 250000 high))
begin_number before (Setup setup) n le ok e = absurd (false≢true e)
begin_number before (Declined k) n le ok e = absurd (false≢true e)
begin_number before (Completed k code) n le ok e = absurd (false≢true e)
begin_number before (Voided k) n le ok e = absurd (false≢true e)
begin_number before (Cancelled k) n le ok e = absurd (false≢true e)
begin_number before (Closed k) n le ok e = absurd (false≢true e)
begin_number before (Acked k) n le ok e = absurd (false≢true e)
begin_number before (Part_entry part) n le ok e = absurd (false≢true e)

sale_here : (before : List TermEntry) (entry : TermEntry) (n : ℕ) → allowed before entry ≡ true → completes n entry ≡ true → (list_any (is_begin n) before ≡ true) × (list_any (is_sale_of n (amount_of before n)) (sale_of before entry) ≡ true)
sale_here before (Completed k code) n ok e =
    let same = eqb-true k n e in
    let begun = (and_parts (list_any (is_begin k) before) (not (list_any (ends k) before)) (allowed_is before (Completed k code) refl ok)).0 in (
      subst (λ j. list_any (is_begin j) before ≡ true) same begun,
      or_left _ _ (and_from (k == n) (amount_of before k == amount_of before n) e (eq-eqb _ _ (ap (amount_of before) same))),
    )
sale_here before (Setup setup) n ok e = absurd (false≢true e)
sale_here before (Begin k amount account) n ok e = absurd (false≢true e)
sale_here before (Declined k) n ok e = absurd (false≢true e)
sale_here before (Voided k) n ok e = absurd (false≢true e)
sale_here before (Cancelled k) n ok e = absurd (false≢true e)
sale_here before (Closed k) n ok e = absurd (false≢true e)
sale_here before (Acked k) n ok e = absurd (false≢true e)
sale_here before (Part_entry part) n ok e = absurd (false≢true e)

pub journaled_step : (before : List TermEntry) (entry : TermEntry) → Journaled before → allowed before entry ≡ true → Journaled (before ++ entry ∷ [])
journaled_step before entry j ok =
    record {
      ended = λ n e.
          ⊎_elim (λ h. any_kept (ends n) before (entry ∷ []) (j.ended n h)) (λ h. any_here (ends n) before entry h)
          (ends_after n before (items before) entry (rw items-push at e));
      closes = ap (count_by is_any_close) (items-push before entry) ∙ (closes_after before (items before) entry ∙ (ap (λ k. k + cond (is_any_closed entry) 1 0) j.closes ∙ sym (fold_push (λ a x. a + cond (is_any_closed x) 1 0) 0 before entry)));
      numbers = λ le n e.
          ⊎_elim (λ h. j.numbers (omega (arith, max_of_push before entry)) n h) (λ h. begin_number before entry n (omega (arith, max_of_push before entry)) ok h)
          (any_push (is_begin n) before entry e);
      sale = λ n e.
          let split = sales_from-append [] before (entry ∷ []) in
          let found : (begun : list_any (is_begin n) before ≡ true) → list_any (is_sale_of n (amount_of before n)) (sales_from [] before ++ (sale_of before entry ++ [])) ≡ true → (list_any (is_begin n) (before ++ entry ∷ []) ≡ true) × (list_any (is_sale_of n (amount_of (before ++ entry ∷ []) n)) (sales_from [] (before ++ entry ∷ [])) ≡ true) =
          λ begun h. (any_kept (is_begin n) before (entry ∷ []) begun, rw (amount_of-append before (entry ∷ []) n begun, split) h) in
          ⊎_elim
          (λ h. let was = j.sale n h in found was.0 (list_any-append _ (sales_from [] before) (sale_of before entry ++ []) ∙ or_left _ _ was.1))
          (λ h. let here = sale_here before entry n ok h in
          let at : list_any (is_sale_of n (amount_of before n)) (sale_of before entry ++ []) ≡ true = rw append-nil here.1 in
          found here.0 (list_any-append _ (sales_from [] before) (sale_of before entry ++ []) ∙ or_right _ _ at))
          (any_push (completes n) before entry e);
    }

journaled_none : Journaled []
journaled_none = record { ended = λ n e. e; closes = refl; numbers = λ le n e. absurd (false≢true e); sale = λ n e. absurd (false≢true e) }

-- a kept Sale stays found
kept_found : (test : ℕ → Bool) (n a : ℕ) (xs : List Item) → test n ≡ true → list_any (is_sale_of n a) xs ≡ true → list_any (is_sale_of n a) (filter (is_sale_where test) xs) ≡ true
kept_found test n a [] ok e = e
kept_found test n a (Sale k b account code ∷ xs) ok e =
    ⊎_elim
    (λ yes. rw (cond-true (test k) _ _ yes)
    (⊎_elim (λ h. or_left _ _ h) (λ h. or_right _ _ (kept_found test n a xs ok h)) (or_cases _ _ e)))
    (λ no.
    ⊎_elim
    (λ h. absurd (false≢true (sym no ∙ (ap test (eqb-true k n (and_parts (k == n) (b == a) h).0) ∙ ok))))
    (λ h. rw (cond-false (test k) _ _ no) (kept_found test n a xs ok h))
    (or_cases _ _ e))
    (cases_Bool (test k))
kept_found test n a (Void k ∷ xs) ok e = kept_found test n a xs ok e
kept_found test n a (Cancel k b ∷ xs) ok e = kept_found test n a xs ok e
kept_found test n a (Close p totals ∷ xs) ok e = kept_found test n a xs ok e

-- a pending sale may end in the log
pending_fits : (before : List TermEntry) (k : ℕ) → Journaled before → max_of before ≤ 250000 → is_pending before k ≡ true → (is_number k && not (list_any (is_end k) (items before))) ≡ true
pending_fits before k j le e =
    let parts = and_parts (list_any (is_begin k) before) (not (list_any (ends k) before)) e in
    and_from _ _ (j.numbers le k parts.0)
    (not_from_false _ (false_from_ne_true _ (λ h. false≢true (sym (not-true _ parts.1) ∙ j.ended k h))))

fit_after : (before : List TermEntry) (entry : TermEntry) → Journaled before → max_of before ≤ 250000 → allowed before entry ≡ true → all_fit [] (items before) ≡ true → all_fit [] (items_after before (items before) entry) ≡ true
fit_after before (Completed k code) j le ok fit =
    all_fit-append [] (items before) _ fit (and_from _ _ (pending_fits before k j le (allowed_is before (Completed k code) refl ok)) refl)
fit_after before (Voided k) j le ok fit =
    all_fit-append [] (items before) _ fit (and_from _ _ (pending_fits before k j le (allowed_is before (Voided k) refl ok)) refl)
fit_after before (Cancelled k) j le ok fit =
    let parts = and_parts (is_completed before k) (not (is_cancelled before k)) (allowed_is before (Cancelled k) refl ok) in
    let found = kept_found (λ n. not (is_cancelled before n)) k (amount_of before k) (sales_from [] before) parts.1 (j.sale k parts.0).1 in
    all_fit-append [] (items before) _ fit (and_from _ _ (ap (list_any (is_sale_of k (amount_of before k))) (captured_items before) ∙ found) refl)
fit_after before (Closed p) j le ok fit =
    let parts = and_parts (p == count_by is_any_closed before + 1) (nat_le p 250000) (allowed_is before (Closed p) refl ok) in
    all_fit-append [] (items before) _ fit (and_from _ _ (and_from _ _ (ap (λ k. p == k + 1) j.closes ∙ parts.0) parts.1) refl)
fit_after before (Setup setup) j le ok fit = fit
fit_after before (Begin k amount account) j le ok fit = fit
fit_after before (Declined k) j le ok fit = fit
fit_after before (Acked k) j le ok fit = fit
fit_after before (Part_entry part) j le ok fit = fit

record Fitting (before : List TermEntry) : Type 0 where
  journal : Journaled before
  fit : max_of before ≤ 250000 → all_fit [] (items before) ≡ true

fitting_step : (before : List TermEntry) (entry : TermEntry) → Fitting before → allowed before entry ≡ true → Fitting (before ++ entry ∷ [])
fitting_step before entry f ok =
    record {
      journal = journaled_step before entry f.journal ok;
      fit = λ le.
          let le' : max_of before ≤ 250000 = omega (arith, max_of_push before entry) in
          rw items-push (fit_after before entry f.journal le' ok (f.fit le'));
    }

-- the items of a legal journal fit one after another
pub legal_items_fit : (entries : List TermEntry) → all_allowed [] entries ≡ true → max_of entries ≤ 250000 → all_fit [] (items entries) ≡ true
legal_items_fit entries ok le = (along Fitting fitting_step [] entries (record { journal = journaled_none; fit = λ h. refl }) ok).fit le

-- each Close has the totals of what stands before it
abbrev pub TotalsFrom : List Item → List Item → Type 0
TotalsFrom before [] = Unit {0}
TotalsFrom before (Sale k amount account code ∷ items) = TotalsFrom (before ++ Sale k amount account code ∷ []) items
TotalsFrom before (Void k ∷ items) = TotalsFrom (before ++ Void k ∷ []) items
TotalsFrom before (Cancel k amount ∷ items) = TotalsFrom (before ++ Cancel k amount ∷ []) items
TotalsFrom before (Close p sums ∷ items) = (sums ≡ period_totals before p) × TotalsFrom (before ++ Close p sums ∷ []) items

totals_push : (before items : List Item) (item : Item) → TotalsFrom before items → TotalsFrom (before ++ items) (item ∷ []) → TotalsFrom before (items ++ item ∷ [])
totals_push before [] item p q = rw append-nil at q
totals_push before (Sale k amount account code ∷ items) item p q = totals_push (before ++ Sale k amount account code ∷ []) items item p (rw append_assoc q)
totals_push before (Void k ∷ items) item p q = totals_push (before ++ Void k ∷ []) items item p (rw append_assoc q)
totals_push before (Cancel k amount ∷ items) item p q = totals_push (before ++ Cancel k amount ∷ []) items item p (rw append_assoc q)
totals_push before (Close r sums ∷ items) item p q = (p.0, totals_push (before ++ Close r sums ∷ []) items item p.1 (rw append_assoc q))

pub totals_back : (before items more : List Item) → TotalsFrom before (items ++ more) → TotalsFrom (before ++ items) more
totals_back before [] more p = rw append-nil p
totals_back before (Sale k amount account code ∷ items) more p = rw append_assoc at (totals_back (before ++ Sale k amount account code ∷ []) items more p)
totals_back before (Void k ∷ items) more p = rw append_assoc at (totals_back (before ++ Void k ∷ []) items more p)
totals_back before (Cancel k amount ∷ items) more p = rw append_assoc at (totals_back (before ++ Cancel k amount ∷ []) items more p)
totals_back before (Close r sums ∷ items) more p = rw append_assoc at (totals_back (before ++ Close r sums ∷ []) items more p.1)

pub totals_front : (before items more : List Item) → TotalsFrom before (items ++ more) → TotalsFrom before items
totals_front before [] more p = tt
totals_front before (Sale k amount account code ∷ items) more p = totals_front (before ++ Sale k amount account code ∷ []) items more p
totals_front before (Void k ∷ items) more p = totals_front (before ++ Void k ∷ []) items more p
totals_front before (Cancel k amount ∷ items) more p = totals_front (before ++ Cancel k amount ∷ []) items more p
totals_front before (Close r sums ∷ items) more p = (p.0, totals_front (before ++ Close r sums ∷ []) items more p.1)

totals_after : (before : List TermEntry) (items : List Item) (entry : TermEntry) → TotalsFrom [] items → TotalsFrom [] (items_after before items entry)
totals_after before items (Completed k code) p = totals_push [] items _ p tt
totals_after before items (Voided k) p = totals_push [] items _ p tt
totals_after before items (Cancelled k) p = totals_push [] items _ p tt
totals_after before items (Closed q) p = totals_push [] items (Close q (period_totals items q)) p (refl, tt)
totals_after before items (Setup setup) p = p
totals_after before items (Begin k amount account) p = p
totals_after before items (Declined k) p = p
totals_after before items (Acked k) p = p
totals_after before items (Part_entry part) p = p

pub totals_from : (before : List TermEntry) (items : List Item) (entries : List TermEntry) → TotalsFrom [] items → TotalsFrom [] (items_from before items entries)
totals_from before items [] p = p
totals_from before items (entry ∷ entries) p = totals_from (before ++ entry ∷ []) (items_after before items entry) entries (totals_after before items entry p)

-- what stands behind a Close does not change its period's totals
before_close_stops : (p : ℕ) (sums : Totals) (front rest : List Item) → before_close p (front ++ (Close p sums ∷ rest)) ≡ before_close p front
before_close_stops p sums [] rest = cond-true (p == p) _ _ (eq-eqb p p refl)
before_close_stops p sums (item ∷ front) rest = ap (λ l. cond (is_close p item) [] (item ∷ l)) (before_close_stops p sums front rest)

pub period_totals_stop : (p : ℕ) (sums : Totals) (front rest : List Item) → period_totals (front ++ (Close p sums ∷ rest)) p ≡ period_totals front p
period_totals_stop p sums front rest = ap (λ l. sums_of (cond (p == 1) l (after_close (p - 1) l))) (before_close_stops p sums front rest)

pub totals_prefix : (items more : List Item) → TotalsFrom [] (items ++ more) → TotalsFrom [] items
totals_prefix items more p = totals_front [] items more p

pub totals_one : (before : List Item) (item : Item) (rest : List Item) → TotalsFrom before (item ∷ rest) → TotalsFrom before (item ∷ [])
totals_one before item rest p = totals_front before (item ∷ []) rest p

max_from : (first : TermEntry) (rest : List TermEntry) → is_setup first ≡ true → max_of (first ∷ rest) ≤ 250000
max_from (Setup settings) rest ok =
    let parts = and_parts (nat_le 1 settings.max && nat_le settings.max 250000) (nat_le settings.floor 999999999999 && not (bytes_eq settings.terminal settings.host)) ok in
    leb-true settings.max 250000 (and_parts (nat_le 1 settings.max) (nat_le settings.max 250000) parts.0).1
max_from (Begin k amount account) rest ok = omega arith
max_from (Declined k) rest ok = omega arith
max_from (Completed k code) rest ok = omega arith
max_from (Voided k) rest ok = omega arith
max_from (Cancelled k) rest ok = omega arith
max_from (Closed k) rest ok = omega arith
max_from (Acked k) rest ok = omega arith
max_from (Part_entry part) rest ok = omega arith

-- a legal journal begins at most 250,000 sales
pub max_within : (entries : List TermEntry) → all_allowed [] entries ≡ true → max_of entries ≤ 250000
max_within [] ok = omega arith
max_within (first ∷ rest) ok = max_from first rest (and_parts (is_setup first) (all_allowed (first ∷ []) rest) ok).0

-- the items of a legal journal fit one after another
pub items_fit : (entries : List TermEntry) → all_allowed [] entries ≡ true → all_fit [] (items entries) ≡ true
items_fit entries ok = legal_items_fit entries ok (max_within entries ok)

-- a completed sale was begun
pub completed_begun : (entries : List TermEntry) → all_allowed [] entries ≡ true → (n : ℕ) → is_completed entries n ≡ true → list_any (is_begin n) entries ≡ true
completed_begun entries ok n e = ((along Journaled journaled_step [] entries journaled_none ok).sale n e).0
