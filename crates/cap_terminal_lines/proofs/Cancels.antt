-- Which sales may be cancelled, and which periods closed, in a legal journal.
use Rattle.std.proofs.Common.{◌≡◌, ⊎_elim, ℕ, ◌≤◌, ◌<◌, true, false, not, List, [], ◌∷◌, ◌++◌, refl, sym, ◌∙◌, ap, subst, arith, eq-eqb, eqb-true}
use Rattle.std.specs.Prelude.{count_by, ◌==◌, nat_le}
use Rattle.std.specs.List.{list_any}
use Rattle.std.proofs.lemmas.Bool.{cond-true, cond-false, false≢true, false_from_ne_true, and_parts, and_from, or_cases, or_left, le-leb, lt-leb}
use Rattle.std.proofs.Math.Bool.{or-false}
use Rattle.std.proofs.lemmas.List.Folds.{list_any-append}
use Rattle.cap_entries.specs.declared.terminal.TermEntry.{TermEntry}
use Rattle.cap_entries.specs.declared.terminal.TermEntry.TheVariants.{Setup, Begin, Declined, Completed, Voided, Cancelled, Closed, Acked, Part}
use Rattle.cap_entries.specs.Entry.{is_begin, completes, cancels, is_any_closed, is_completed, is_cancelled}
use Rattle.cap_entries.specs.Allowed.{allowed, all_allowed, Legal}
use Rattle.cap_entries.specs.AllowedLaws.{along, allowed_is}
use Rattle.cap_plain.specs.LegalLaws.{completed_begun}
use Rattle.cap_schedule.specs.declared.outcome.Outcome.{Outcome}
use Rattle.cap_schedule.specs.declared.outcome.Outcome.TheVariants as O
use Rattle.cap_plays.specs.Turns.{Turn, says, if_cancellable, why_not_cancelled, next_period}

-- a legal journal is a list of allowed entries, and not empty
pub allowed_all : (entries : List TermEntry) → Legal entries → all_allowed [] entries ≡ true
allowed_all [] legal = absurd (false≢true legal)
allowed_all (first ∷ rest) legal = legal

-- it was cancelled only where it was completed
abbrev CancelsCompleted : List TermEntry → Type 0
CancelsCompleted before = (n : ℕ) → is_cancelled before n ≡ true → is_completed before n ≡ true

cancel_here : (before : List TermEntry) (entry : TermEntry) (n : ℕ) → allowed before entry ≡ true → cancels n entry ≡ true → is_completed before n ≡ true
cancel_here before (Setup settings) n ok is = absurd (false≢true is)
cancel_here before (Begin k amount account) n ok is = absurd (false≢true is)
cancel_here before (Declined k) n ok is = absurd (false≢true is)
cancel_here before (Completed k code) n ok is = absurd (false≢true is)
cancel_here before (Voided k) n ok is = absurd (false≢true is)
cancel_here before (Cancelled k) n ok is =
    subst (λ (j : ℕ). is_completed before j ≡ true) (eqb-true k n is) (and_parts (is_completed before k) (not (is_cancelled before k)) (allowed_is before (Cancelled k) refl ok)).0
cancel_here before (Closed p) n ok is = absurd (false≢true is)
cancel_here before (Acked m) n ok is = absurd (false≢true is)
cancel_here before (Part part) n ok is = absurd (false≢true is)

cancels_step : (before : List TermEntry) (entry : TermEntry) → CancelsCompleted before → allowed before entry ≡ true → CancelsCompleted (before ++ entry ∷ [])
cancels_step before entry is ok = λ n cancelled.
    let earlier : is_completed before n ≡ true =
    ⊎_elim (λ h. is n h) (λ h. cancel_here before entry n ok (rw or-false at h)) (or_cases _ _ (sym (list_any-append (cancels n) before (entry ∷ [])) ∙ cancelled)) in
    list_any-append (completes n) before (entry ∷ []) ∙ or_left _ _ earlier

pub cancelled_completed : (entries : List TermEntry) → all_allowed [] entries ≡ true → (n : ℕ) → is_cancelled entries n ≡ true → is_completed entries n ≡ true
cancelled_completed entries ok n is = along CancelsCompleted cancels_step [] entries (λ k none. absurd (false≢true none)) ok n is

-- it may be cancelled
pub may_cancel : (entries : List TermEntry) (n : ℕ) → is_completed entries n ≡ true → is_cancelled entries n ≡ false → allowed entries (Cancelled n) ≡ true
may_cancel [] n completed not_cancelled = absurd (false≢true completed)
may_cancel (first ∷ rest) n completed not_cancelled = and_from _ _ completed (ap not not_cancelled)

may_not : (entries : List TermEntry) (n : ℕ) → (is_completed entries n ≡ true → is_cancelled entries n ≡ false → ⊥) → allowed entries (Cancelled n) ≡ false
may_not [] n cannot = refl
may_not (first ∷ rest) n cannot = false_from_ne_true _ (λ ok.
    let parts = and_parts (is_completed (first ∷ rest) n) (not (is_cancelled (first ∷ rest) n)) ok in
    cannot parts.0 (false_from_ne_true _ (λ cancelled. false≢true (ap not (sym cancelled) ∙ parts.1))))

refused : (entries : List TermEntry) (n : ℕ) (turn : Turn) (why : Outcome) → allowed entries (Cancelled n) ≡ false → why_not_cancelled entries n ≡ why → if_cancellable entries n turn ≡ says why
refused entries n turn why cannot is = cond-false (allowed entries (Cancelled n)) _ _ cannot ∙ ap (λ (o : Outcome). says o) is

-- why it may not be cancelled
pub no_sale : (entries : List TermEntry) (n : ℕ) (turn : Turn) → Legal entries → list_any (is_begin n) entries ≡ false → if_cancellable entries n turn ≡ says (O.NoSale n)
no_sale entries n turn legal none =
    let cannot = may_not entries n (λ completed _. false≢true (sym none ∙ completed_begun entries (allowed_all entries legal) n completed)) in
    refused entries n turn (O.NoSale n) cannot (cond-true (not (list_any (is_begin n) entries)) _ _ (ap not none))

pub not_completed : (entries : List TermEntry) (n : ℕ) (turn : Turn) → list_any (is_begin n) entries ≡ true → is_completed entries n ≡ false → if_cancellable entries n turn ≡ says (O.NotCompleted n)
not_completed entries n turn begun none =
    let cannot = may_not entries n (λ completed _. false≢true (sym none ∙ completed)) in
    refused entries n turn (O.NotCompleted n) cannot
    (cond-false (not (list_any (is_begin n) entries)) _ _ (ap not begun) ∙ cond-true (not (is_completed entries n)) _ _ (ap not none))

pub already_cancelled : (entries : List TermEntry) (n : ℕ) (turn : Turn) → Legal entries → is_cancelled entries n ≡ true → if_cancellable entries n turn ≡ says (O.AlreadyCancelled n)
already_cancelled entries n turn legal cancelled =
    let cannot = may_not entries n (λ _ free. false≢true (sym free ∙ cancelled)) in
    let completed = cancelled_completed entries (allowed_all entries legal) n cancelled in
    let begun = completed_begun entries (allowed_all entries legal) n completed in
    refused entries n turn (O.AlreadyCancelled n) cannot
    (cond-false (not (list_any (is_begin n) entries)) _ _ (ap not begun) ∙ cond-false (not (is_completed entries n)) _ _ (ap not completed))

-- the next period may be closed, or may not
pub may_close : (entries : List TermEntry) → Legal entries → count_by is_any_closed entries < 250000 → allowed entries (Closed (next_period entries)) ≡ true
may_close [] legal few = absurd (false≢true legal)
may_close (first ∷ rest) legal few = and_from _ _ (eq-eqb _ _ refl) (le-leb (next_period (first ∷ rest)) 250000 (omega (arith, few)))

pub may_not_close : (entries : List TermEntry) → 250000 ≤ count_by is_any_closed entries → allowed entries (Closed (next_period entries)) ≡ false
may_not_close [] many = refl
may_not_close (first ∷ rest) many = false_from_ne_true _ (λ ok.
    let parts = and_parts (next_period (first ∷ rest) == next_period (first ∷ rest)) (nat_le (next_period (first ∷ rest)) 250000) ok in
    false≢true (sym (lt-leb (next_period (first ∷ rest)) 250000 (omega (arith, many))) ∙ parts.1))
