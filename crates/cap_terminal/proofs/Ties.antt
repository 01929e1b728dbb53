-- What the index says of a legal journal.
use Rattle.std.proofs.Common.{◌≡◌, ◌⊎◌, ℕ, ◌+◌, ◌-◌, ◌≤◌, ◌<◌, Bool, true, false, cond, not, ◌&&◌, ◌||◌, List, [], ◌∷◌, ◌++◌, length, refl, sym, ◌∙◌, ap, subst, inl, inr, ⊎_elim, arith, eq-eqb, eqb-true, leb-true, le-leb, leb-false, length-append, length-set, get_or-set_same, get_or-set_other, slice_index_or}
use Rattle.std.specs.Prelude.{count_by, ◌==◌, nat_le}
use Rattle.std.specs.List.{list_any}
use Rattle.std.proofs.lemmas.Bool.{cond-true, cond-false, cases_Bool, false≢true, and_parts, and_from, or_left, or_right, not-true}
use Rattle.std.proofs.Math.Seq.{get_or-append_seam}
use Rattle.std.proofs.lemmas.List.{get_or_append_left, get_or_past}
use Rattle.std.proofs.lemmas.List.Sums.{fold_push}
use Rattle.std.proofs.lemmas.List.Folds.{list_any-append}
use Rattle.cap_base.specs.declared.item.Totals.{Totals}
use Rattle.cap_base.specs.declared.item.Item.{Item}
use Rattle.cap_base.specs.declared.item.Item.TheVariants.{Sale, Void, Cancel, Close}
use Rattle.cap_base.specs.Captured.{period_totals}
use Rattle.cap_entries.specs.declared.terminal.TermEntry.{TermEntry}
use Rattle.cap_entries.specs.declared.terminal.TermEntry.TheVariants.{Setup, Begin, Declined as Declined_entry, Completed as Completed_entry, Voided as Voided_entry, Cancelled as Cancelled_entry, Closed, Acked, Part}
use Rattle.cap_entries.specs.Entry.{is_any_begin, is_begin, ends, completes, cancels, is_any_closed, is_pending, is_completed, is_cancelled, amount_of, account_of}
use Rattle.cap_entries.specs.Items.{items, items_after}
use Rattle.cap_entries.specs.Acked.{acked}
use Rattle.cap_entries.specs.Allowed.{allowed, is_legal}
use Rattle.cap_entries.specs.AllowedLaws.{allowed_is}
use Rattle.cap_entries.specs.ItemsLaws.{items-push}
use Rattle.cap_terminal.specs.declared.sale_row.Stage.{Stage}
use Rattle.cap_terminal.specs.declared.sale_row.Stage.TheVariants.{Pending, Declined, Completed, Voided, Cancelled}
use Rattle.cap_terminal.specs.declared.sale_row.SaleRow.{SaleRow}
use Rattle.cap_terminal.specs.Index.{TerminalIndex, blank_row, row_of, at_stage, staged, is_ended, is_done, is_taken_back, index_after, index_of}
use Rattle.cap_terminal.specs.Running.{nothing}
use Rattle.cap_terminal.proofs.Periods.{Periods, period_push, period_close}
use Rattle.cap_terminal.proofs.Growth.{acked_push, index_push, along_legal}

pub record RowTies (entries : List TermEntry) (n : ℕ) (row : SaleRow) : Type 0 where
  pub amount_is : row.amount ≡ amount_of entries n
  pub account_is : row.account ≡ account_of entries n
  pub ended : list_any (ends n) entries ≡ is_ended row.stage
  pub done : list_any (completes n) entries ≡ is_done row.stage
  pub back : list_any (cancels n) entries ≡ is_taken_back row.stage

pub record Ties (entries : List TermEntry) (x : TerminalIndex) : Type 0 where
  pub count : length x.sales ≡ count_by is_any_begin entries
  pub begun : (n : ℕ) → list_any (is_begin n) entries ≡ (nat_le 1 n && nat_le n (length x.sales))
  pub row : (n : ℕ) → 1 ≤ n → RowTies entries n (row_of x.sales n)
  pub items_are : x.items ≡ items entries
  pub acked_is : x.acked ≡ acked entries
  pub closes : length x.closed ≡ count_by is_any_closed entries
  pub periods : Periods (items entries) x.running x.closed
  pub done_begun : (n : ℕ) → list_any (completes n) entries ≡ true → list_any (is_begin n) entries ≡ true

or_nothing : (b : Bool) → (b || false) ≡ b
or_nothing true = refl
or_nothing false = refl

-- a test that the new entry does not meet
any_same : (p : TermEntry → Bool) (before : List TermEntry) (entry : TermEntry) → p entry ≡ false → list_any p (before ++ entry ∷ []) ≡ list_any p before
any_same p before entry h = list_any-append p before (entry ∷ []) ∙ (ap (λ b. list_any p before || (b || false)) h ∙ or_nothing (list_any p before))

any_here : (p : TermEntry → Bool) (before : List TermEntry) (entry : TermEntry) → p entry ≡ true → list_any p (before ++ entry ∷ []) ≡ true
any_here p before entry e = list_any-append p before (entry ∷ []) ∙ or_right (list_any p before) (p entry || false) (or_left (p entry) false e)

count_same : (p : TermEntry → Bool) (before : List TermEntry) (entry : TermEntry) (n : ℕ) → n ≡ count_by p before → p entry ≡ false → n ≡ count_by p (before ++ entry ∷ [])
count_same p before entry n is h = is ∙ sym (fold_push (λ a x. a + cond (p x) 1 0) 0 before entry ∙ (ap (λ b. count_by p before + cond b 1 0) h ∙ (let z : count_by p before + 0 ≡ count_by p before = omega arith in z)))

count_more : (p : TermEntry → Bool) (before : List TermEntry) (entry : TermEntry) (n : ℕ) → n ≡ count_by p before + 1 → p entry ≡ true → n ≡ count_by p (before ++ entry ∷ [])
count_more p before entry n is h = is ∙ sym (fold_push (λ a x. a + cond (p x) 1 0) 0 before entry ∙ ap (λ b. count_by p before + cond b 1 0) h)

-- amount and account of sales whose Begin the new entry isn't
module _ (n : ℕ) (entry : TermEntry) (other : is_begin n entry ≡ false) where
  amount_alone : (e : TermEntry) → is_begin n e ≡ false → amount_of (e ∷ []) n ≡ 0
  amount_alone (Setup setup) h = refl
  amount_alone (Begin k amount account) h = cond-false (k == n) _ _ h
  amount_alone (Declined_entry k) h = refl
  amount_alone (Completed_entry k code) h = refl
  amount_alone (Voided_entry k) h = refl
  amount_alone (Cancelled_entry k) h = refl
  amount_alone (Closed k) h = refl
  amount_alone (Acked k) h = refl
  amount_alone (Part part) h = refl

  account_alone : (e : TermEntry) → is_begin n e ≡ false → account_of (e ∷ []) n ≡ []
  account_alone (Setup setup) h = refl
  account_alone (Begin k amount account) h = cond-false (k == n) _ _ h
  account_alone (Declined_entry k) h = refl
  account_alone (Completed_entry k code) h = refl
  account_alone (Voided_entry k) h = refl
  account_alone (Cancelled_entry k) h = refl
  account_alone (Closed k) h = refl
  account_alone (Acked k) h = refl
  account_alone (Part part) h = refl

  pub amount_push : (before : List TermEntry) → amount_of (before ++ entry ∷ []) n ≡ amount_of before n
  amount_push [] = amount_alone entry other
  amount_push (Begin k amount account ∷ rest) = ap (cond (k == n) amount) (amount_push rest)
  amount_push (Setup setup ∷ rest) = amount_push rest
  amount_push (Declined_entry k ∷ rest) = amount_push rest
  amount_push (Completed_entry k code ∷ rest) = amount_push rest
  amount_push (Voided_entry k ∷ rest) = amount_push rest
  amount_push (Cancelled_entry k ∷ rest) = amount_push rest
  amount_push (Closed k ∷ rest) = amount_push rest
  amount_push (Acked k ∷ rest) = amount_push rest
  amount_push (Part part ∷ rest) = amount_push rest

  pub account_push : (before : List TermEntry) → account_of (before ++ entry ∷ []) n ≡ account_of before n
  account_push [] = account_alone entry other
  account_push (Begin k amount account ∷ rest) = ap (cond (k == n) account) (account_push rest)
  account_push (Setup setup ∷ rest) = account_push rest
  account_push (Declined_entry k ∷ rest) = account_push rest
  account_push (Completed_entry k code ∷ rest) = account_push rest
  account_push (Voided_entry k ∷ rest) = account_push rest
  account_push (Cancelled_entry k ∷ rest) = account_push rest
  account_push (Closed k ∷ rest) = account_push rest
  account_push (Acked k ∷ rest) = account_push rest
  account_push (Part part ∷ rest) = account_push rest

-- the Begin of a sale that had none
module _ (n a : ℕ) (account : List ℕ) where
  amount_new : (before : List TermEntry) → list_any (is_begin n) before ≡ false → amount_of (before ++ Begin n a account ∷ []) n ≡ a
  amount_new [] h = cond-true (n == n) _ _ (eq-eqb n n refl)
  amount_new (Begin k b other ∷ rest) h =
      ⊎_elim (λ yes. absurd (false≢true (sym h ∙ or_left (k == n) (list_any (is_begin n) rest) yes)))
      (λ no'. cond-false (k == n) _ _ no' ∙ amount_new rest (sym (ap (λ t. t || list_any (is_begin n) rest) no') ∙ h))
      (cases_Bool (k == n))
  amount_new (Setup setup ∷ rest) h = amount_new rest h
  amount_new (Declined_entry k ∷ rest) h = amount_new rest h
  amount_new (Completed_entry k code ∷ rest) h = amount_new rest h
  amount_new (Voided_entry k ∷ rest) h = amount_new rest h
  amount_new (Cancelled_entry k ∷ rest) h = amount_new rest h
  amount_new (Closed k ∷ rest) h = amount_new rest h
  amount_new (Acked k ∷ rest) h = amount_new rest h
  amount_new (Part part ∷ rest) h = amount_new rest h

  account_new : (before : List TermEntry) → list_any (is_begin n) before ≡ false → account_of (before ++ Begin n a account ∷ []) n ≡ account
  account_new [] h = cond-true (n == n) _ _ (eq-eqb n n refl)
  account_new (Begin k b other ∷ rest) h =
      ⊎_elim (λ yes. absurd (false≢true (sym h ∙ or_left (k == n) (list_any (is_begin n) rest) yes)))
      (λ no'. cond-false (k == n) _ _ no' ∙ account_new rest (sym (ap (λ t. t || list_any (is_begin n) rest) no') ∙ h))
      (cases_Bool (k == n))
  account_new (Setup setup ∷ rest) h = account_new rest h
  account_new (Declined_entry k ∷ rest) h = account_new rest h
  account_new (Completed_entry k code ∷ rest) h = account_new rest h
  account_new (Voided_entry k ∷ rest) h = account_new rest h
  account_new (Cancelled_entry k ∷ rest) h = account_new rest h
  account_new (Closed k ∷ rest) h = account_new rest h
  account_new (Acked k ∷ rest) h = account_new rest h
  account_new (Part part ∷ rest) h = account_new rest h

-- a row that the new entry says nothing of
record Passes (n : ℕ) (entry : TermEntry) : Type 0 where
  begin : is_begin n entry ≡ false
  ends_not : ends n entry ≡ false
  done_not : completes n entry ≡ false
  back_not : cancels n entry ≡ false

row_kept : (before : List TermEntry) (n : ℕ) (entry : TermEntry) (row : SaleRow) → Passes n entry → RowTies before n row → RowTies (before ++ entry ∷ []) n row
row_kept before n entry row pass ties = record {
  amount_is = ties.amount_is ∙ sym (amount_push n entry pass.begin before);
  account_is = ties.account_is ∙ sym (account_push n entry pass.begin before);
  ended = any_same (ends n) before entry pass.ends_not ∙ ties.ended;
  done = any_same (completes n) before entry pass.done_not ∙ ties.done;
  back = any_same (cancels n) before entry pass.back_not ∙ ties.back;
}

-- a row that the new entry moves on
row_moved : (before : List TermEntry) (n : ℕ) (entry : TermEntry) (row : SaleRow) (stage : Stage) → is_begin n entry ≡ false → RowTies before n row
    → list_any (ends n) (before ++ entry ∷ []) ≡ is_ended stage → list_any (completes n) (before ++ entry ∷ []) ≡ is_done stage → list_any (cancels n) (before ++ entry ∷ []) ≡ is_taken_back stage
    → RowTies (before ++ entry ∷ []) n (at_stage row stage)
row_moved before n entry row stage other ties e d b = record {
  amount_is = ties.amount_is ∙ sym (amount_push n entry other before);
  account_is = ties.account_is ∙ sym (account_push n entry other before);
  ended = e;
  done = d;
  back = b;
}

-- what the tests of a row say of its stage
pub pending_stage : (stage : Stage) → is_ended stage ≡ false → stage ≡ Pending
pending_stage Pending h = refl
pending_stage Declined h = absurd (false≢true (sym h))
pending_stage Completed h = absurd (false≢true (sym h))
pending_stage Voided h = absurd (false≢true (sym h))
pending_stage Cancelled h = absurd (false≢true (sym h))

pub completed_stage : (stage : Stage) → is_done stage ≡ true → is_taken_back stage ≡ false → stage ≡ Completed
completed_stage Completed d b = refl
completed_stage Pending d b = absurd (false≢true d)
completed_stage Declined d b = absurd (false≢true d)
completed_stage Voided d b = absurd (false≢true d)
completed_stage Cancelled d b = absurd (false≢true (sym b))

pub in_range : (entries : List TermEntry) (x : TerminalIndex) (n : ℕ) → Ties entries x → list_any (is_begin n) entries ≡ true → (1 ≤ n) × (n ≤ length x.sales)
in_range entries x n ties h = let parts = and_parts (nat_le 1 n) (nat_le n (length x.sales)) (sym (ties.begun n) ∙ h) in (leb-true 1 n parts.0, leb-true n (length x.sales) parts.1)

pub pending_at : (entries : List TermEntry) (x : TerminalIndex) (n : ℕ) → Ties entries x → is_pending entries n ≡ true → (1 ≤ n) × (n ≤ length x.sales) × ((row_of x.sales n).stage ≡ Pending)
pending_at entries x n ties h =
    let parts = and_parts (list_any (is_begin n) entries) (not (list_any (ends n) entries)) h in
    let range = in_range entries x n ties parts.0 in
    (range.0, range.1, pending_stage _ (sym ((ties.row n range.0).ended) ∙ not-true (list_any (ends n) entries) parts.1))

pub completed_at : (entries : List TermEntry) (x : TerminalIndex) (n : ℕ) → Ties entries x → is_completed entries n ≡ true → is_cancelled entries n ≡ false → (1 ≤ n) × (n ≤ length x.sales) × ((row_of x.sales n).stage ≡ Completed)
completed_at entries x n ties h c =
    let range = in_range entries x n ties (ties.done_begun n h) in
    let row = ties.row n range.0 in
    (range.0, range.1, completed_stage _ (sym row.done ∙ h) (sym row.back ∙ c))

-- reading the sales after a change
pub staged_same : (sales : List SaleRow) (n : ℕ) (stage : Stage) → 1 ≤ n → n ≤ length sales → row_of (staged sales n stage) n ≡ at_stage (row_of sales n) stage
staged_same sales n stage low high = get_or-set_same sales (n - 1) (at_stage (row_of sales n) stage) blank_row (omega (arith, low, high))

pub staged_other : (sales : List SaleRow) (n m : ℕ) (stage : Stage) → 1 ≤ n → 1 ≤ m → (m ≡ n → ⊥) → row_of (staged sales n stage) m ≡ row_of sales m
staged_other sales n m stage low low' ne = get_or-set_other sales (n - 1) (m - 1) (at_stage (row_of sales n) stage) blank_row (λ e. ne (omega (arith, e, low, low')))

-- no entry but these is of a sale
record Silent (entry : TermEntry) : Type 0 where
  passes : (n : ℕ) → Passes n entry
  no_begin : is_any_begin entry ≡ false

pub isnt_same : (k n : ℕ) → (k ≡ n → ⊥) → (k == n) ≡ false
isnt_same k n ne = false_or (k == n) (λ h. ne (eqb-true k n h))
  where
    false_or : (b : Bool) → (b ≡ true → ⊥) → b ≡ false
    false_or true h = absurd (h refl)
    false_or false h = refl

pub same_or_not : (k n : ℕ) → (k ≡ n) ⊎ (k ≡ n → ⊥)
same_or_not k n = ⊎_elim (λ yes. inl (eqb-true k n yes)) (λ no'. inr (λ e. false≢true (sym no' ∙ eq-eqb k n e))) (cases_Bool (k == n))

-- an entry of no sale
module _ (before : List TermEntry) (entry : TermEntry) (x y : TerminalIndex) (ties : Ties before x) (silent : Silent entry) where
  silent_ties : y.sales ≡ x.sales → y.items ≡ items (before ++ entry ∷ []) → y.acked ≡ acked (before ++ entry ∷ []) → length y.closed ≡ count_by is_any_closed (before ++ entry ∷ []) → Periods (items (before ++ entry ∷ [])) y.running y.closed → Ties (before ++ entry ∷ []) y
  silent_ties sales made acked_is closes periods = record {
    count = ap length sales ∙ count_same is_any_begin before entry (length x.sales) ties.count silent.no_begin;
    begun = λ n. any_same (is_begin n) before entry (silent.passes n).begin ∙ (ties.begun n ∙ ap (λ l. nat_le 1 n && nat_le n (length l)) (sym sales));
    row = λ n low. subst (λ (l : List SaleRow). RowTies (before ++ entry ∷ []) n (row_of l n)) (sym sales) (row_kept before n entry _ (silent.passes n) (ties.row n low));
    items_are = made;
    acked_is = acked_is;
    closes = closes;
    periods = periods;
    done_begun = λ n h. any_same (is_begin n) before entry (silent.passes n).begin ∙ ties.done_begun n (sym (any_same (completes n) before entry (silent.passes n).done_not) ∙ h);
  }

-- an entry of sale k, which moves it on
record Moves (k : ℕ) (entry : TermEntry) : Type 0 where
  passes : (n : ℕ) → (k ≡ n → ⊥) → Passes n entry
  no_begin : is_any_begin entry ≡ false
  begins_none : (n : ℕ) → is_begin n entry ≡ false

module _ (before : List TermEntry) (entry : TermEntry) (x y : TerminalIndex) (k : ℕ) (stage : Stage) (ties : Ties before x) (moves : Moves k entry) where
  moved_ties : (1 ≤ k) → (k ≤ length x.sales) → y.sales ≡ staged x.sales k stage → y.items ≡ items (before ++ entry ∷ []) → y.acked ≡ acked (before ++ entry ∷ []) → length y.closed ≡ count_by is_any_closed (before ++ entry ∷ []) → Periods (items (before ++ entry ∷ [])) y.running y.closed
      → list_any (ends k) (before ++ entry ∷ []) ≡ is_ended stage → list_any (completes k) (before ++ entry ∷ []) ≡ is_done stage → list_any (cancels k) (before ++ entry ∷ []) ≡ is_taken_back stage
      → Ties (before ++ entry ∷ []) y
  moved_ties low high sales made acked_is closes periods e d b = record {
    count = ap length sales ∙ (same_length ∙ count_same is_any_begin before entry (length x.sales) ties.count moves.no_begin);
    begun = λ n. any_same (is_begin n) before entry (moves.begins_none n) ∙ (ties.begun n ∙ ap (λ (l : ℕ). nat_le 1 n && nat_le n l) (sym (ap length sales ∙ same_length)));
    row = λ n low'. subst (λ (l : List SaleRow). RowTies (before ++ entry ∷ []) n (row_of l n)) (sym sales) (row_at n low' (same_or_not k n));
    items_are = made;
    acked_is = acked_is;
    closes = closes;
    periods = periods;
    done_begun = λ n h. any_same (is_begin n) before entry (moves.begins_none n) ∙ begun_at n h (same_or_not k n);
  }
    where
      same_length : length (staged x.sales k stage) ≡ length x.sales
      same_length = length-set x.sales (k - 1) (at_stage (row_of x.sales k) stage)

      row_at : (n : ℕ) → 1 ≤ n → (k ≡ n) ⊎ (k ≡ n → ⊥) → RowTies (before ++ entry ∷ []) n (row_of (staged x.sales k stage) n)
      row_at n low' (inl same) =
          subst (λ (m : ℕ). RowTies (before ++ entry ∷ []) m (row_of (staged x.sales k stage) m)) same
          (subst (λ (r : SaleRow). RowTies (before ++ entry ∷ []) k r) (sym (staged_same x.sales k stage low high)) (row_moved before k entry (row_of x.sales k) stage (moves.begins_none k) (ties.row k low) e d b))
      row_at n low' (inr ne) = subst (λ (r : SaleRow). RowTies (before ++ entry ∷ []) n r) (sym (staged_other x.sales k n stage low low' (λ q. ne (sym q)))) (row_kept before n entry (row_of x.sales n) (moves.passes n ne) (ties.row n low'))

      begun_at : (n : ℕ) → list_any (completes n) (before ++ entry ∷ []) ≡ true → (k ≡ n) ⊎ (k ≡ n → ⊥) → list_any (is_begin n) before ≡ true
      begun_at n h (inl same) = subst (λ (m : ℕ). list_any (is_begin m) before ≡ true) same (ties.begun k ∙ and_from (nat_le 1 k) (nat_le k (length x.sales)) (le-leb 1 k low) (le-leb k (length x.sales) high))
      begun_at n h (inr ne) = ties.done_begun n (sym (any_same (completes n) before entry (moves.passes n ne).done_not) ∙ h)

-- the tests, entry by entry
moves_declined : (k : ℕ) → Moves k (Declined_entry k)
moves_declined k = record { passes = λ n ne. record { begin = refl; ends_not = isnt_same k n ne; done_not = refl; back_not = refl }; no_begin = refl; begins_none = λ n. refl }

moves_completed : (k : ℕ) (code : List ℕ) → Moves k (Completed_entry k code)
moves_completed k code = record { passes = λ n ne. record { begin = refl; ends_not = isnt_same k n ne; done_not = isnt_same k n ne; back_not = refl }; no_begin = refl; begins_none = λ n. refl }

moves_voided : (k : ℕ) → Moves k (Voided_entry k)
moves_voided k = record { passes = λ n ne. record { begin = refl; ends_not = isnt_same k n ne; done_not = refl; back_not = refl }; no_begin = refl; begins_none = λ n. refl }

moves_cancelled : (k : ℕ) → Moves k (Cancelled_entry k)
moves_cancelled k = record { passes = λ n ne. record { begin = refl; ends_not = refl; done_not = refl; back_not = isnt_same k n ne }; no_begin = refl; begins_none = λ n. refl }

silent_closed : (p : ℕ) → Silent (Closed p)
silent_closed p = record { passes = λ n. record { begin = refl; ends_not = refl; done_not = refl; back_not = refl }; no_begin = refl }

silent_acked : (m : ℕ) → Silent (Acked m)
silent_acked m = record { passes = λ n. record { begin = refl; ends_not = refl; done_not = refl; back_not = refl }; no_begin = refl }

silent_part : (part : _) → Silent (Part part)
silent_part part = record { passes = λ n. record { begin = refl; ends_not = refl; done_not = refl; back_not = refl }; no_begin = refl }

silent_setup : (setup : _) → Silent (Setup setup)
silent_setup setup = record { passes = λ n. record { begin = refl; ends_not = refl; done_not = refl; back_not = refl }; no_begin = refl }

-- the items after an entry that makes none, and the periods with them
same_items : (before : List TermEntry) (entry : TermEntry) (mine : List Item) → items_after before (items before) entry ≡ items before → mine ≡ items before → mine ≡ items (before ++ entry ∷ [])
same_items before entry mine none is = is ∙ sym (items-push before entry ∙ none)

same_periods : (before : List TermEntry) (entry : TermEntry) (running : Totals) (closed : List Totals) → items_after before (items before) entry ≡ items before → Periods (items before) running closed → Periods (items (before ++ entry ∷ [])) running closed
same_periods before entry running closed none periods = subst (λ (l : List Item). Periods l running closed) (sym (items-push before entry ∙ none)) periods

ties_begin : (before : List TermEntry) (x : TerminalIndex) (k a : ℕ) (account : List ℕ) → Ties before x → allowed before (Begin k a account) ≡ true → Ties (before ++ Begin k a account ∷ []) (index_after x (Begin k a account))
ties_begin before x k a account ties ok =
    let parts = and_parts (k == count_by is_any_begin before + 1) _ (allowed_is before (Begin k a account) refl ok) in
    let is : k ≡ length x.sales + 1 = eqb-true k _ parts.0 ∙ ap (λ c. c + 1) (sym ties.count) in
    record {
      count = count_more is_any_begin before (Begin k a account) _ (longer ∙ ap (λ c. c + 1) ties.count) refl;
      begun = λ n. list_any-append (is_begin n) before (Begin k a account ∷ []) ∙ begun_at is n (same_or_not k n);
      row = λ n low. row_at is n low (same_or_not k n);
      items_are = same_items before (Begin k a account) x.items refl ties.items_are;
      acked_is = ties.acked_is ∙ sym (acked_push before (Begin k a account));
      closes = count_same is_any_closed before (Begin k a account) _ ties.closes refl;
      periods = same_periods before (Begin k a account) x.running x.closed refl ties.periods;
      done_begun = λ n h. list_any-append (is_begin n) before (Begin k a account ∷ []) ∙ or_left (list_any (is_begin n) before) _ (ties.done_begun n (sym (any_same (completes n) before (Begin k a account) refl) ∙ h));
    }
  where
    new : SaleRow
    new = record { amount = a; account = account; stage = Pending }

    longer : length (x.sales ++ new ∷ []) ≡ length x.sales + 1
    longer = length-append x.sales (new ∷ [])

    range_to : (n : ℕ) (bound : ℕ) → 1 ≤ n → n ≤ bound → (nat_le 1 n && nat_le n bound) ≡ true
    range_to n bound low high = and_from (nat_le 1 n) (nat_le n bound) (le-leb 1 n low) (le-leb n bound high)

    begun_at : k ≡ length x.sales + 1 → (n : ℕ) → (k ≡ n) ⊎ (k ≡ n → ⊥) → (list_any (is_begin n) before || ((k == n) || false)) ≡ (nat_le 1 n && nat_le n (length (x.sales ++ new ∷ [])))
    begun_at is n (inl same) =
        or_right (list_any (is_begin n) before) ((k == n) || false) (or_left (k == n) false (eq-eqb k n same))
        ∙ sym (range_to n (length (x.sales ++ new ∷ [])) (omega (arith, same, is)) (omega (arith, same, is, longer)))
    begun_at is n (inr ne) =
        ap (λ b. list_any (is_begin n) before || (b || false)) (isnt_same k n ne)
        ∙ (or_nothing (list_any (is_begin n) before) ∙ (ties.begun n ∙ ap (λ b. nat_le 1 n && b) (same_bound is n ne)))
      where
        false_or : (b : Bool) → (b ≡ true → ⊥) → b ≡ false
        false_or true h = absurd (h refl)
        false_or false h = refl

        same_bound : k ≡ length x.sales + 1 → (n : ℕ) → (k ≡ n → ⊥) → nat_le n (length x.sales) ≡ nat_le n (length (x.sales ++ new ∷ []))
        same_bound is n ne =
            ⊎_elim
            (λ yes. yes ∙ sym (le-leb n (length (x.sales ++ new ∷ [])) (omega (arith, leb-true n (length x.sales) yes, longer))))
            (λ no'. no' ∙ sym (false_or (nat_le n (length (x.sales ++ new ∷ []))) (λ h. false≢true (sym no' ∙ le-leb n (length x.sales) (omega (arith, ne, is, leb-true n (length (x.sales ++ new ∷ [])) h, longer))))))
            (cases_Bool (nat_le n (length x.sales)))

    none_before : k ≡ length x.sales + 1 → list_any (is_begin k) before ≡ false
    none_before is = ⊎_elim (λ yes. let r = in_range before x k ties yes in let no' : ⊥ = omega (arith, is, r.1) in absurd no') (λ no'. no') (cases_Bool (list_any (is_begin k) before))

    beyond : (n : ℕ) → length x.sales ≤ n - 1 → row_of x.sales n ≡ blank_row
    beyond n h = get_or_past x.sales (n - 1) blank_row h

    row_at : k ≡ length x.sales + 1 → (n : ℕ) → 1 ≤ n → (k ≡ n) ⊎ (k ≡ n → ⊥) → RowTies (before ++ Begin k a account ∷ []) n (row_of (x.sales ++ new ∷ []) n)
    row_at is n low (inl same) =
        let at : row_of (x.sales ++ new ∷ []) k ≡ new = (let place : k - 1 ≡ length x.sales = omega (arith, is) in ap (λ i. slice_index_or (x.sales ++ new ∷ []) i blank_row) place) ∙ get_or-append_seam x.sales new [] blank_row in
        let low' : 1 ≤ k = omega (arith, is) in
        let past : length x.sales ≤ k - 1 = omega (arith, is) in
        let old : RowTies before k blank_row = subst (λ (r : SaleRow). RowTies before k r) (beyond k past) (ties.row k low') in
        let made : RowTies (before ++ Begin k a account ∷ []) k new = record {
          amount_is = sym (amount_new k a account before (none_before is));
          account_is = sym (account_new k a account before (none_before is));
          ended = any_same (ends k) before (Begin k a account) refl ∙ old.ended;
          done = any_same (completes k) before (Begin k a account) refl ∙ old.done;
          back = any_same (cancels k) before (Begin k a account) refl ∙ old.back;
        } in
        subst (λ (m : ℕ). RowTies (before ++ Begin k a account ∷ []) m (row_of (x.sales ++ new ∷ []) m)) same (subst (λ (r : SaleRow). RowTies (before ++ Begin k a account ∷ []) k r) (sym at) made)
    row_at is n low (inr ne) =
        let pass : Passes n (Begin k a account) = record { begin = isnt_same k n ne; ends_not = refl; done_not = refl; back_not = refl } in
        subst (λ (r : SaleRow). RowTies (before ++ Begin k a account ∷ []) n r) (sym (unchanged (cases_Bool (nat_le n (length x.sales))))) (row_kept before n (Begin k a account) (row_of x.sales n) pass (ties.row n low))
      where
        unchanged : (nat_le n (length x.sales) ≡ true) ⊎ (nat_le n (length x.sales) ≡ false) → row_of (x.sales ++ new ∷ []) n ≡ row_of x.sales n
        unchanged (inl within) = get_or_append_left x.sales (new ∷ []) blank_row (n - 1) (omega (arith, low, leb-true n (length x.sales) within))
        unchanged (inr past) =
            let high : length x.sales < n = leb-false n (length x.sales) past in
            get_or_past (x.sales ++ new ∷ []) (n - 1) blank_row (omega (arith, high, ne, is, longer)) ∙ sym (beyond n (omega (arith, high)))

-- the items after an entry that makes one
one_item : (before : List TermEntry) (entry : TermEntry) (made : List Item) (mine theirs : Item) → made ≡ items before → mine ≡ theirs → items_after before (items before) entry ≡ items before ++ theirs ∷ [] → made ++ mine ∷ [] ≡ items (before ++ entry ∷ [])
one_item before entry made mine theirs is same makes =
    ap (λ (l : List Item). l ++ mine ∷ []) is ∙ (ap (λ (i : Item). items before ++ i ∷ []) same ∙ sym (items-push before entry ∙ makes))

one_period : (before : List TermEntry) (entry : TermEntry) (made : List Item) (running : Totals) (closed : List Totals) (mine : Item) → made ≡ items before → made ++ mine ∷ [] ≡ items (before ++ entry ∷ []) → Periods (made ++ mine ∷ []) running closed → Periods (items (before ++ entry ∷ [])) running closed
one_period before entry made running closed mine is all periods = subst (λ (l : List Item). Periods l running closed) all periods

ended_here : (before : List TermEntry) (entry : TermEntry) (k : ℕ) → ends k entry ≡ true → list_any (ends k) (before ++ entry ∷ []) ≡ true
ended_here before entry k h = any_here (ends k) before entry h

same_sale : (k a a' : ℕ) (account account' code : List ℕ) → a ≡ a' → account ≡ account' → ◌≡◌ {A = Item} (Sale k a account code) (Sale k a' account' code)
same_sale k a a' account account' code p q = ap (λ (n : ℕ). let i : Item = Sale k n account code in i) p ∙ ap (λ (l : List ℕ). let i : Item = Sale k a' l code in i) q

module _ (before : List TermEntry) (x : TerminalIndex) (ties : Ties before x) where
  periods_here : Periods x.items x.running x.closed
  periods_here = subst (λ (l : List Item). Periods l x.running x.closed) (sym ties.items_are) ties.periods

  ties_declined : (k : ℕ) → is_pending before k ≡ true → Ties (before ++ Declined_entry k ∷ []) (index_after x (Declined_entry k))
  ties_declined k ok =
      let entry = Declined_entry k in
      let at = pending_at before x k ties ok in
      let row = ties.row k at.0 in
      moved_ties before entry x (index_after x entry) k Declined ties (moves_declined k) at.0 at.1 refl
      (same_items before entry x.items refl ties.items_are) (ties.acked_is ∙ sym (acked_push before entry)) (count_same is_any_closed before entry _ ties.closes refl)
      (same_periods before entry x.running x.closed refl ties.periods)
      (any_here (ends k) before entry (eq-eqb k k refl))
      (any_same (completes k) before entry refl ∙ (row.done ∙ ap is_done at.2))
      (any_same (cancels k) before entry refl ∙ (row.back ∙ ap is_taken_back at.2))

  ties_completed : (k : ℕ) (code : List ℕ) → is_pending before k ≡ true → Ties (before ++ Completed_entry k code ∷ []) (index_after x (Completed_entry k code))
  ties_completed k code ok =
      let entry = Completed_entry k code in
      let at = pending_at before x k ties ok in
      let row = ties.row k at.0 in
      let mine = Sale k (row_of x.sales k).amount (row_of x.sales k).account code in
      let all = one_item before entry x.items mine (Sale k (amount_of before k) (account_of before k) code) ties.items_are (same_sale k _ _ _ _ code row.amount_is row.account_is) refl in
      moved_ties before entry x (index_after x entry) k Completed ties (moves_completed k code) at.0 at.1 refl
      all (ties.acked_is ∙ sym (acked_push before entry)) (count_same is_any_closed before entry _ ties.closes refl)
      (one_period before entry x.items _ x.closed mine ties.items_are all (period_push x.items x.running x.closed periods_here mine refl (λ q. refl)))
      (any_here (ends k) before entry (eq-eqb k k refl))
      (any_here (completes k) before entry (eq-eqb k k refl))
      (any_same (cancels k) before entry refl ∙ (row.back ∙ ap is_taken_back at.2))

  ties_voided : (k : ℕ) → is_pending before k ≡ true → Ties (before ++ Voided_entry k ∷ []) (index_after x (Voided_entry k))
  ties_voided k ok =
      let entry = Voided_entry k in
      let at = pending_at before x k ties ok in
      let row = ties.row k at.0 in
      let mine = Void k in
      let all = one_item before entry x.items mine mine ties.items_are refl refl in
      moved_ties before entry x (index_after x entry) k Voided ties (moves_voided k) at.0 at.1 refl
      all (ties.acked_is ∙ sym (acked_push before entry)) (count_same is_any_closed before entry _ ties.closes refl)
      (one_period before entry x.items _ x.closed mine ties.items_are all (period_push x.items x.running x.closed periods_here mine refl (λ q. refl)))
      (any_here (ends k) before entry (eq-eqb k k refl))
      (any_same (completes k) before entry refl ∙ (row.done ∙ ap is_done at.2))
      (any_same (cancels k) before entry refl ∙ (row.back ∙ ap is_taken_back at.2))

  ties_cancelled : (k : ℕ) → is_completed before k ≡ true → is_cancelled before k ≡ false → Ties (before ++ Cancelled_entry k ∷ []) (index_after x (Cancelled_entry k))
  ties_cancelled k ok none =
      let entry = Cancelled_entry k in
      let at = completed_at before x k ties ok none in
      let row = ties.row k at.0 in
      let mine = Cancel k (row_of x.sales k).amount in
      let all = one_item before entry x.items mine (Cancel k (amount_of before k)) ties.items_are (ap (λ (n : ℕ). let i : Item = Cancel k n in i) row.amount_is) refl in
      moved_ties before entry x (index_after x entry) k Cancelled ties (moves_cancelled k) at.0 at.1 refl
      all (ties.acked_is ∙ sym (acked_push before entry)) (count_same is_any_closed before entry _ ties.closes refl)
      (one_period before entry x.items _ x.closed mine ties.items_are all (period_push x.items x.running x.closed periods_here mine refl (λ q. refl)))
      (any_same (ends k) before entry refl ∙ (row.ended ∙ ap is_ended at.2))
      (any_same (completes k) before entry refl ∙ ok)
      (any_here (cancels k) before entry (eq-eqb k k refl))

  ties_closed : (p : ℕ) → p ≡ count_by is_any_closed before + 1 → Ties (before ++ Closed p ∷ []) (index_after x (Closed p))
  ties_closed p is =
      let entry = Closed p in
      let next : p ≡ length x.closed + 1 = is ∙ ap (λ c. c + 1) (sym ties.closes) in
      let mine = Close p x.running in
      let all = one_item before entry x.items mine (Close p (period_totals (items before) p)) ties.items_are (ap (λ (t : Totals). let i : Item = Close p t in i) (ties.periods.running_is ∙ ap (period_totals (items before)) (sym next))) refl in
      silent_ties before entry x (index_after x entry) ties (silent_closed p) refl all
      (ties.acked_is ∙ sym (acked_push before entry))
      (count_more is_any_closed before entry _ (length-append x.closed (x.running ∷ []) ∙ ap (λ c. c + 1) ties.closes) refl)
      (one_period before entry x.items nothing (x.closed ++ x.running ∷ []) mine ties.items_are all
      (subst (λ (q : ℕ). Periods (x.items ++ Close q x.running ∷ []) nothing (x.closed ++ x.running ∷ [])) (sym next) (period_close x.items x.running x.closed periods_here x.running)))

  ties_silent : (entry : TermEntry) (y : TerminalIndex) → Silent entry → items_after before (items before) entry ≡ items before → is_any_closed entry ≡ false → y.sales ≡ x.sales → y.items ≡ x.items → y.running ≡ x.running → y.closed ≡ x.closed → y.acked ≡ acked (before ++ entry ∷ []) → Ties (before ++ entry ∷ []) y
  ties_silent entry y silent none open' sales made running closed acked_is =
      silent_ties before entry x y ties silent sales (made ∙ same_items before entry x.items none ties.items_are) acked_is
      (ap length closed ∙ count_same is_any_closed before entry _ ties.closes open')
      (subst (λ (t : Totals). Periods (items (before ++ entry ∷ [])) t y.closed) (sym running)
      (subst (λ (l : List Totals). Periods (items (before ++ entry ∷ [])) x.running l) (sym closed) (same_periods before entry x.running x.closed none ties.periods)))

-- whatever entry is allowed
pub ties_after : (before : List TermEntry) (entry : TermEntry) (x : TerminalIndex) → Ties before x → allowed before entry ≡ true → Ties (before ++ entry ∷ []) (index_after x entry)
ties_after before (Setup setup) x ties ok = ties_silent before x ties (Setup setup) x (silent_setup setup) refl refl refl refl refl refl (ties.acked_is ∙ sym (acked_push before (Setup setup)))
ties_after before (Begin k a account) x ties ok = ties_begin before x k a account ties ok
ties_after before (Declined_entry k) x ties ok = ties_declined before x ties k (allowed_is before (Declined_entry k) refl ok)
ties_after before (Completed_entry k code) x ties ok = ties_completed before x ties k code (allowed_is before (Completed_entry k code) refl ok)
ties_after before (Voided_entry k) x ties ok = ties_voided before x ties k (allowed_is before (Voided_entry k) refl ok)
ties_after before (Cancelled_entry k) x ties ok = let parts = and_parts (is_completed before k) (not (is_cancelled before k)) (allowed_is before (Cancelled_entry k) refl ok) in ties_cancelled before x ties k parts.0 (not-true (is_cancelled before k) parts.1)
ties_after before (Closed p) x ties ok = let parts = and_parts (p == count_by is_any_closed before + 1) (nat_le p 250000) (allowed_is before (Closed p) refl ok) in ties_closed before x ties p (eqb-true p _ parts.0)
ties_after before (Acked m) x ties ok = ties_silent before x ties (Acked m) (index_after x (Acked m)) (silent_acked m) refl refl refl refl refl refl (sym (acked_push before (Acked m)))
ties_after before (Part part) x ties ok = ties_silent before x ties (Part part) (index_after x (Part part)) (silent_part part) refl refl refl refl refl refl (ties.acked_is ∙ sym (acked_push before (Part part)))

none_at_all : (n : ℕ) → 1 ≤ n → (nat_le 1 n && nat_le n 0) ≡ false
none_at_all n low = ⊎_elim (λ yes. let h : n ≤ 0 = leb-true n 0 (and_parts (nat_le 1 n) (nat_le n 0) yes).1 in let no' : ⊥ = omega (arith, h, low) in absurd no') (λ no'. no') (cases_Bool (nat_le 1 n && nat_le n 0))

none_in_none : (n : ℕ) → false ≡ (nat_le 1 n && nat_le n 0)
none_in_none n = sym (⊎_elim (λ yes. let parts = and_parts (nat_le 1 n) (nat_le n 0) yes in let low : 1 ≤ n = leb-true 1 n parts.0 in let h : n ≤ 0 = leb-true n 0 parts.1 in let no' : ⊥ = omega (arith, h, low) in absurd no') (λ no'. no') (cases_Bool (nat_le 1 n && nat_le n 0)))

pub ties_none : Ties [] (index_of [])
ties_none = record {
  count = refl;
  begun = none_in_none;
  row = λ n low. subst (λ (r : SaleRow). RowTies [] n r) (sym (get_or_past [] (n - 1) blank_row (omega arith))) (record { amount_is = refl; account_is = refl; ended = refl; done = refl; back = refl });
  items_are = refl;
  acked_is = refl;
  closes = refl;
  periods = record { closes = refl; close = none_in_none; running_is = refl; closed_are = λ p d low high. let no' : ⊥ = omega (arith, low, high) in absurd no' };
  done_begun = λ n h. absurd (false≢true h);
}

-- the index of a legal journal says what the journal says
pub ties_of : (entries : List TermEntry) → is_legal entries ≡ true → Ties entries (index_of entries)
ties_of entries legal = along_legal (λ es. Ties es (index_of es)) (λ before entry t ok. subst (λ (y : TerminalIndex). Ties (before ++ entry ∷ []) y) (sym (index_push before entry)) (ties_after before entry (index_of before) t ok)) entries ties_none legal
