-- What an entry needs: the index is ready, and there is room.
use Rattle.std.proofs.Common.{◌≡◌, ◌⊎◌, ℕ, ◌+◌, ◌-◌, ◌≤◌, ◌<◌, true, false, not, ◌&&◌, List, [], ◌∷◌, length, refl, sym, ◌∙◌, ap, subst, inl, inr, arith, slice_index_or, IsSome, IfSome, Option, Some, None, ⊎_elim, eq-eqb, leb-true, le-leb}
use Rattle.std.specs.Prelude.{count_by, sum_by, ◌==◌, nat_le, nat_lt, option_and_then, MatchOption}
use Rattle.std.specs.List.{list_any}
use Rattle.std.proofs.lemmas.Bool.{cond-true, cond-false, cases_Bool, false≢true, and_parts, and_from, not-true, lt-ltb, cond_both}
use Rattle.std.proofs.lemmas.List.Sums.{get_or-le-sum_by}
use Rattle.cap_base.specs.Captured.{period_totals}
use Rattle.cap_journal.specs.declared.spare.Spare.{Spare}
use Rattle.cap_journal.specs.Spare.{Suffices, Takes, NoLower, less, less_one}
use Rattle.cap_entries.specs.declared.terminal.TermEntry.{TermEntry}
use Rattle.cap_entries.specs.declared.terminal.TermEntry.TheVariants.{Setup, Begin, Declined, Completed, Voided, Cancelled, Closed, Acked, Part}
use Rattle.cap_entries.specs.Entry.{is_pending, ends, is_begin, is_any_begin, is_any_closed, max_of, is_completed, is_cancelled}
use Rattle.cap_entries.specs.Items.{items}
use Rattle.cap_entries.specs.Acked.{acked}
use Rattle.cap_entries.specs.Allowed.{allowed, is_legal}
use Rattle.cap_entries.specs.TermRecord.{term_fits, term_record}
use Rattle.cap_entries.specs.TermRecordLaws.{term_record_small}
use Rattle.cap_terminal.specs.declared.sale_row.Stage.{Stage}
use Rattle.cap_terminal.specs.declared.sale_row.Stage.TheVariants as stage
use Rattle.cap_terminal.specs.declared.sale_row.SaleRow.{SaleRow}
use Rattle.cap_terminal.specs.declared.index.Index.{Index}
use Rattle.cap_terminal.specs.Index.{TerminalIndex, blank_row, row_of, row_need, need_of, change_of, index_of}
use Rattle.cap_terminal.specs.View.{index_view}
use Rattle.cap_terminal.specs.Ready.{IsReady, IsAt, freed, more_owed}
use Rattle.cap_terminal.specs.Room.{HasRoom, HasOtherRoom, wanted}
use Rattle.cap_terminal.specs.Says.{Says, sale_at}
use Rattle.cap_terminal.specs.Pending.{waits, WaitsNoneFrom, IsLeastWaiting}
use Rattle.cap_terminal.specs.Live.{PendsNoneFrom, IsLeastPending}
use Rattle.cap_terminal.proofs.Waiting.{zero_or}
use Rattle.cap_base.specs.declared.item.Totals.{Totals}
use Rattle.cap_base.specs.Item.{is_close}
use Rattle.cap_base.specs.Captured.{totals}
use Rattle.cap_entries.specs.Entry.{term_setup_of}
use Rattle.cap_entries.specs.Floor.{floor}
use Rattle.cap_terminal_answers.specs.declared.counts.Counts.{Counts}
use Rattle.cap_terminal_answers.specs.Counts.{counts_of, is_any_completed, is_any_cancelled, is_any_voided}
use Rattle.cap_terminal.specs.Running.{closed_at, nothing}
use Rattle.cap_terminal.specs.SetsIndex.{floor_or}
use Rattle.cap_terminal.proofs.Counters.{completed_is, cancelled_is, voided_is}
use Rattle.cap_terminal.proofs.Set_ties.{SetTies, set_ties_of, floor_is}
use Rattle.cap_terminal.proofs.Growth.{after_setup, own_floor_is}
use Rattle.cap_terminal.proofs.Ties.{Ties, ties_of, pending_at, completed_at}

-- one entry of a size, where there is a small one to take, and it is small or there is a large one
takes_small : (spare : Spare) (size : ℕ) → 1 ≤ spare.small → size ≤ 72 → less_one size spare ≡ Some (record { small = spare.small - 1; rows = spare.rows })
takes_small spare size some small = cond-true (nat_le size 72 && nat_lt 0 spare.small) _ _ (and_from (nat_le size 72) (nat_lt 0 spare.small) (le-leb size 72 small) (lt-ltb 0 spare.small some))

takes_large : (spare : Spare) (size : ℕ) → nat_le size 72 ≡ false → 1 ≤ spare.rows → less_one size spare ≡ Some (record { small = spare.small; rows = spare.rows - 1 })
takes_large spare size large some = cond-false (nat_le size 72 && nat_lt 0 spare.small) _ _ (ap (λ b. b && nat_lt 0 spare.small) large) ∙ cond-true (nat_lt 0 spare.rows) _ _ (lt-ltb 0 spare.rows some)

takes_one : (spare : Spare) (size : ℕ) → 1 ≤ spare.small → (size ≤ 72) ⊎ (1 ≤ spare.rows) → (left : Spare) × (less_one size spare ≡ Some left) × (spare.small ≤ left.small + 1)
takes_one spare size some (inl small) = (record { small = spare.small - 1; rows = spare.rows }, takes_small spare size some small, omega (arith, some))
takes_one spare size some (inr rows) =
    ⊎_elim
    (λ small. (record { small = spare.small - 1; rows = spare.rows }, takes_small spare size some (leb-true size 72 small), omega (arith, some)))
    (λ large. (record { small = spare.small; rows = spare.rows - 1 }, takes_large spare size large rows, omega arith))
    (cases_Bool (nat_le size 72))

one_suffices : (spare : Spare) (size : ℕ) → 1 ≤ spare.small → (size ≤ 72) ⊎ (1 ≤ spare.rows) → Suffices (size ∷ []) spare
one_suffices spare size some or_rows = subst (λ (o : Option Spare). IsSome (option_and_then (less []) o)) (sym (takes_one spare size some or_rows).1) refl

one_taken : (spare new : Spare) (size : ℕ) → 1 ≤ spare.small → (size ≤ 72) ⊎ (1 ≤ spare.rows) → Takes (size ∷ []) spare new → spare.small ≤ new.small + 1
one_taken spare new size some or_rows takes =
    let one = takes_one spare size some or_rows in
    let left : NoLower one.0 new = subst (λ (o : Option Spare). IfSome (option_and_then (less []) o) (λ left. NoLower left new)) one.1 takes in
    omega (arith, left.small, one.2)

module _ (entries : List TermEntry) (x : Index) (view : index_view x ≡ index_of entries) (legal : is_legal entries ≡ true) where
  pub ties_here : Ties entries (index_view x)
  ties_here = subst (λ (y : TerminalIndex). Ties entries y) (sym view) (ties_of entries legal)

  pending_is_at : (n : ℕ) → is_pending entries n ≡ true → IsAt x n stage.Pending
  pending_is_at n h = let at = pending_at entries (index_view x) n ties_here h in record { low = at.0; high = at.1; at = at.2 }

  completed_is_at : (n : ℕ) → is_completed entries n ≡ true → is_cancelled entries n ≡ false → IsAt x n stage.Completed
  completed_is_at n h c = let at = completed_at entries (index_view x) n ties_here h c in record { low = at.0; high = at.1; at = at.2 }

  pub ready : (spare : Spare) (entry : TermEntry) → allowed entries entry ≡ true → HasRoom x spare entry → IsReady x (change_of entry)
  ready spare (Setup settings) ok room = tt
  ready spare (Begin n amount account) ok room = room.0
  ready spare (Declined n) ok room = pending_is_at n (sym (after_setup entries (Declined n) legal) ∙ ok)
  ready spare (Completed n code) ok room = pending_is_at n (sym (after_setup entries (Completed n code) legal) ∙ ok)
  ready spare (Voided n) ok room = pending_is_at n (sym (after_setup entries (Voided n) legal) ∙ ok)
  ready spare (Cancelled n) ok room =
      let parts = and_parts (is_completed entries n) (not (is_cancelled entries n)) (sym (after_setup entries (Cancelled n) legal) ∙ ok) in
      completed_is_at n parts.0 (not-true (is_cancelled entries n) parts.1)
  ready spare (Closed p) ok room = room.0
  ready spare (Acked m) ok room = tt
  ready spare (Part part) ok room = tt

  -- a sale at a stage that needs something has it reserved
  owes : (n k : ℕ) (at : Stage) → IsAt x n at → need_of at ≡ k → k ≤ x.owed
  owes n k at is needs =
      let here : need_of (row_of x.sales.items n).stage ≤ sum_by row_need x.sales.items = get_or-le-sum_by row_need x.sales.items (n - 1) blank_row (omega (arith, is.low, is.high)) in
      omega (arith, here, x.owed_is, ap need_of is.at, needs)

  -- what is owed after an entry leaves one small entry for it
  left : (spare : Spare) (entry : TermEntry) → x.owed ≤ spare.small → allowed entries entry ≡ true → HasRoom x spare entry → x.owed + more_owed (change_of entry) + 1 ≤ spare.small + freed (change_of entry)
  left spare (Setup settings) le ok room = absurd (false≢true (sym (after_setup entries (Setup settings) legal) ∙ ok))
  left spare (Begin n amount account) le ok room = omega (arith, room.1)
  left spare (Declined n) le ok room = omega (arith, le)
  left spare (Completed n code) le ok room = omega (arith, le)
  left spare (Voided n) le ok room = omega (arith, le)
  left spare (Cancelled n) le ok room = omega (arith, le)
  left spare (Closed p) le ok room = omega (arith, room.1)
  left spare (Acked m) le ok room = omega (arith, room)
  left spare (Part part) le ok room = omega (arith, room.0)

  some : (spare : Spare) (entry : TermEntry) → x.owed ≤ spare.small → allowed entries entry ≡ true → HasRoom x spare entry → 1 ≤ spare.small
  some spare (Setup settings) le ok room = absurd (false≢true (sym (after_setup entries (Setup settings) legal) ∙ ok))
  some spare (Begin n amount account) le ok room = omega (arith, room.1)
  some spare (Declined n) le ok room = omega (arith, le, owes n 2 stage.Pending (pending_is_at n (sym (after_setup entries (Declined n) legal) ∙ ok)) refl)
  some spare (Completed n code) le ok room = omega (arith, le, owes n 2 stage.Pending (pending_is_at n (sym (after_setup entries (Completed n code) legal) ∙ ok)) refl)
  some spare (Voided n) le ok room = omega (arith, le, owes n 2 stage.Pending (pending_is_at n (sym (after_setup entries (Voided n) legal) ∙ ok)) refl)
  some spare (Cancelled n) le ok room =
      let parts = and_parts (is_completed entries n) (not (is_cancelled entries n)) (sym (after_setup entries (Cancelled n) legal) ∙ ok) in
      omega (arith, le, owes n 1 stage.Completed (completed_is_at n parts.0 (not-true (is_cancelled entries n) parts.1)) refl)
  some spare (Closed p) le ok room = omega (arith, room.1)
  some spare (Acked m) le ok room = omega (arith, room)
  some spare (Part part) le ok room = omega (arith, room.0)

  small_or_rows : (spare : Spare) (entry : TermEntry) → allowed entries entry ≡ true → term_fits entry ≡ true → HasRoom x spare entry → (length (term_record entry) ≤ 72) ⊎ (1 ≤ spare.rows)
  small_or_rows spare (Setup settings) ok fits room = absurd (false≢true (sym (after_setup entries (Setup settings) legal) ∙ ok))
  small_or_rows spare (Begin n amount account) ok fits room = inl (term_record_small (Begin n amount account) refl fits)
  small_or_rows spare (Declined n) ok fits room = inl (term_record_small (Declined n) refl fits)
  small_or_rows spare (Completed n code) ok fits room = inl (term_record_small (Completed n code) refl fits)
  small_or_rows spare (Voided n) ok fits room = inl (term_record_small (Voided n) refl fits)
  small_or_rows spare (Cancelled n) ok fits room = inl (term_record_small (Cancelled n) refl fits)
  small_or_rows spare (Closed p) ok fits room = inl (term_record_small (Closed p) refl fits)
  small_or_rows spare (Acked m) ok fits room = inl (term_record_small (Acked m) refl fits)
  small_or_rows spare (Part part) ok fits room = inr room.1

  pub suffices : (spare : Spare) (entry : TermEntry) → x.owed ≤ spare.small → allowed entries entry ≡ true → term_fits entry ≡ true → HasRoom x spare entry → Suffices (length (term_record entry) ∷ []) spare
  suffices spare entry le ok fits room = one_suffices spare (length (term_record entry)) (some spare entry le ok room) (small_or_rows spare entry ok fits room)

  -- what sales may still need stays reserved
  pub spare_left : (spare new : Spare) (entry : TermEntry) (owed : ℕ) → x.owed ≤ spare.small → allowed entries entry ≡ true → term_fits entry ≡ true → HasRoom x spare entry → Takes (length (term_record entry) ∷ []) spare new
      → owed + freed (change_of entry) ≡ x.owed + more_owed (change_of entry) → owed ≤ new.small
  spare_left spare new entry owed le ok fits room takes is =
      omega (arith, is, left spare entry le ok room, one_taken spare new (length (term_record entry)) (some spare entry le ok room) (small_or_rows spare entry ok fits room) takes)

  -- what the index has of a sale says what the entries say
  pub says : (n : ℕ) → Says entries n (sale_at x.sales.items n)
  says n =
      let P : Option SaleRow → Type 0 = λ o. Says entries n o in
      cond_both (nat_le 1 n && nat_le n (length x.sales.items)) (Some (row_of x.sales.items n)) None P
      (λ within.
      let low : 1 ≤ n = leb-true 1 n (and_parts (nat_le 1 n) (nat_le n (length x.sales.items)) within).0 in
      let row = ties_here.row n low in
      record { begun = ties_here.begun n ∙ within; amount_is = row.amount_is; account_is = row.account_is; ended = row.ended; done = row.done; back = row.back })
      (λ outside.
      let none : list_any (is_begin n) entries ≡ false = ties_here.begun n ∙ outside in
      (none, ⊎_elim (λ done. absurd (false≢true (sym none ∙ ties_here.done_begun n done))) (λ not_done. not_done) (cases_Bool (is_completed entries n))))

  pub sales_count : length x.sales.items ≡ count_by is_any_begin entries
  sales_count = ties_here.count

  pub closes_count : length x.closed.items ≡ count_by is_any_closed entries
  closes_count = ties_here.closes

  pub running_is : x.running ≡ period_totals (items entries) (count_by is_any_closed entries + 1)
  running_is = ties_here.periods.running_is ∙ ap (λ k. period_totals (items entries) (k + 1)) closes_count

  -- the next sale and the next close are allowed
  pub may_begin : (n amount : ℕ) (account : List ℕ) → n ≡ count_by is_any_begin entries + 1 → n ≤ max_of entries → allowed entries (Begin n amount account) ≡ true
  may_begin n amount account is le = after_setup entries (Begin n amount account) legal ∙ and_from (n == count_by is_any_begin entries + 1) (nat_le n (max_of entries)) (eq-eqb n _ is) (le-leb n (max_of entries) le)

  pub may_close : (p : ℕ) → p ≡ count_by is_any_closed entries + 1 → p ≤ 250000 → allowed entries (Closed p) ≡ true
  may_close p is le = after_setup entries (Closed p) legal ∙ and_from (p == count_by is_any_closed entries + 1) (nat_le p 250000) (eq-eqb p _ is) (le-leb p 250000 le)

  pub sets_here : SetTies entries x.sets
  sets_here = subst (λ (y : TerminalIndex). SetTies entries y.sets) (sym view) (set_ties_of entries legal)

  pub floor_here : floor_or x.sets.floor (term_setup_of entries).floor ≡ floor entries
  floor_here = floor_is entries x.sets (term_setup_of entries).floor sets_here (sym (own_floor_is entries))

  pub totals_here : (p : ℕ) → closed_at x.closed.items p ≡ totals (items entries) p
  totals_here p =
      cond_both (nat_le 1 p && nat_le p (length x.closed.items)) (Some (slice_index_or x.closed.items (p - 1) nothing)) None (λ o. o ≡ totals (items entries) p)
      (λ within.
      let range = and_parts (nat_le 1 p) (nat_le p (length x.closed.items)) within in
      ap (λ (t : Totals). Some t) (ties_here.periods.closed_are p nothing (leb-true 1 p range.0) (leb-true p (length x.closed.items) range.1))
      ∙ sym (cond-true (list_any (is_close p) (items entries)) _ _ (ties_here.periods.close p ∙ within)))
      (λ outside. sym (cond-false (list_any (is_close p) (items entries)) _ _ (ties_here.periods.close p ∙ outside)))

  pub counts_here : ◌≡◌ {A = Counts} (record { sales = length x.sales.items; completed = x.completed; cancelled = x.cancelled; voided = x.voided; periods = length x.closed.items }) (counts_of entries)
  counts_here =
      let a = ties_here.count in
      let b : x.completed ≡ count_by is_any_completed entries = ap (λ (y : TerminalIndex). y.completed) view ∙ completed_is entries in
      let d : x.cancelled ≡ count_by is_any_cancelled entries = ap (λ (y : TerminalIndex). y.cancelled) view ∙ cancelled_is entries in
      let e : x.voided ≡ count_by is_any_voided entries = ap (λ (y : TerminalIndex). y.voided) view ∙ voided_is entries in
      let f = ties_here.closes in
      cc

  pub acked_is : x.acked ≡ acked entries
  acked_is = ties_here.acked_is

  pub items_is : x.items.items ≡ items entries
  items_is = ties_here.items_are

  pub may_ack : (m : ℕ) → acked entries < m → m ≤ length (items entries) → allowed entries (Acked m) ≡ true
  may_ack m above within = after_setup entries (Acked m) legal ∙ and_from (nat_lt (acked entries) m) (nat_le m (length (items entries))) (lt-ltb (acked entries) m above) (le-leb m (length (items entries)) within)

-- what the index has of pending sales says what the entries say
module _ (entries : List TermEntry) (x : Index) (view : index_view x ≡ index_of entries) (legal : is_legal entries ≡ true) where
  pends_here : (n : ℕ) → waits x.sales.items n ≡ is_pending entries n
  pends_here n = at n (zero_or n)
    where
      ties : Ties entries (index_view x)
      ties = ties_here entries x view legal

      at : (n : ℕ) → (n ≡ 0) ⊎ (1 ≤ n) → waits x.sales.items n ≡ is_pending entries n
      at n (inl zero) =
          subst (λ (m : ℕ). waits x.sales.items m ≡ is_pending entries m) (sym zero) (sym (ap (λ b. b && not (list_any (ends 0) entries)) (ties.begun 0)))
      at n (inr low) =
          sym
          (ap (λ b. b && not (list_any (ends n) entries)) (ties.begun n)
          ∙ ap (λ b. (nat_le 1 n && nat_le n (length x.sales.items)) && not b) (ties.row n low).ended)

  pub least_here : (n : ℕ) (found : Option ℕ) → MatchOption found (WaitsNoneFrom x.sales.items n) (λ k. IsLeastWaiting x.sales.items n k) → MatchOption found (PendsNoneFrom entries n) (λ k. IsLeastPending entries n k)
  least_here n None none = λ k from. sym (pends_here k) ∙ none k from
  least_here n (Some k) least = record {
    from = least.from;
    pending = sym (pends_here k) ∙ least.pending;
    least = λ q from below. sym (pends_here q) ∙ least.least q from below;
  }

-- the journal's small entries are reserved
pub room_reserved : (x : Index) (old new : Spare) (entry : TermEntry) (more : ℕ) → more ≡ wanted entry → HasOtherRoom x old entry → x.owed + more ≤ new.small → NoLower old new → HasRoom x new entry
room_reserved x old new (Setup settings) more is room small no_lower = tt
room_reserved x old new (Begin n amount account) more is room small no_lower = (room, omega (arith, is, small))
room_reserved x old new (Declined n) more is room small no_lower = tt
room_reserved x old new (Completed n code) more is room small no_lower = tt
room_reserved x old new (Voided n) more is room small no_lower = tt
room_reserved x old new (Cancelled n) more is room small no_lower = tt
room_reserved x old new (Closed p) more is room small no_lower = (room, omega (arith, is, small))
room_reserved x old new (Acked m) more is room small no_lower = omega (arith, is, small)
room_reserved x old new (Part part) more is room small no_lower = (omega (arith, is, small), omega (arith, room, no_lower.rows))
