-- What the index counts is what the entries say.
use Rattle.std.proofs.Common.{◌≡◌, ℕ, ◌+◌, Bool, cond, List, [], ◌∷◌, refl, ◌∙◌, ap, arith}
use Rattle.std.specs.Prelude.{count_by, fold}
use Rattle.cap_entries.specs.declared.terminal.TermEntry.{TermEntry}
use Rattle.cap_entries.specs.declared.terminal.TermEntry.TheVariants.{Setup, Begin, Declined, Completed, Voided, Cancelled, Closed, Acked, Part}
use Rattle.cap_terminal_answers.specs.Counts.{is_any_completed, is_any_cancelled, is_any_voided}
use Rattle.cap_terminal.specs.Index.{TerminalIndex, index_after, index_of, no_index}

-- a number of the index that rises by one at each entry of a sort
module _ (number : TerminalIndex → ℕ) (sort : TermEntry → Bool) (step : (x : TerminalIndex) (entry : TermEntry) → number (index_after x entry) ≡ number x + cond (sort entry) 1 0) where
  counted_from : (x : TerminalIndex) (entries : List TermEntry) → number (fold index_after x entries) ≡ fold (λ a entry. a + cond (sort entry) 1 0) (number x) entries
  counted_from x [] = refl
  counted_from x (entry ∷ entries) = counted_from (index_after x entry) entries ∙ ap (λ (a : ℕ). fold (λ b e. b + cond (sort e) 1 0) a entries) (step x entry)

no_more : (n : ℕ) → n ≡ n + 0
no_more n = omega arith

completed_step : (x : TerminalIndex) (entry : TermEntry) → (index_after x entry).completed ≡ x.completed + cond (is_any_completed entry) 1 0
completed_step x (Setup settings) = no_more x.completed
completed_step x (Begin n amount account) = no_more x.completed
completed_step x (Declined n) = no_more x.completed
completed_step x (Completed n code) = refl
completed_step x (Voided n) = no_more x.completed
completed_step x (Cancelled n) = no_more x.completed
completed_step x (Closed p) = no_more x.completed
completed_step x (Acked m) = no_more x.completed
completed_step x (Part part) = no_more x.completed

pub completed_is : (entries : List TermEntry) → (index_of entries).completed ≡ count_by is_any_completed entries
completed_is entries = counted_from (λ x. x.completed) is_any_completed completed_step no_index entries

cancelled_step : (x : TerminalIndex) (entry : TermEntry) → (index_after x entry).cancelled ≡ x.cancelled + cond (is_any_cancelled entry) 1 0
cancelled_step x (Setup settings) = no_more x.cancelled
cancelled_step x (Begin n amount account) = no_more x.cancelled
cancelled_step x (Declined n) = no_more x.cancelled
cancelled_step x (Completed n code) = no_more x.cancelled
cancelled_step x (Voided n) = no_more x.cancelled
cancelled_step x (Cancelled n) = refl
cancelled_step x (Closed p) = no_more x.cancelled
cancelled_step x (Acked m) = no_more x.cancelled
cancelled_step x (Part part) = no_more x.cancelled

pub cancelled_is : (entries : List TermEntry) → (index_of entries).cancelled ≡ count_by is_any_cancelled entries
cancelled_is entries = counted_from (λ x. x.cancelled) is_any_cancelled cancelled_step no_index entries

voided_step : (x : TerminalIndex) (entry : TermEntry) → (index_after x entry).voided ≡ x.voided + cond (is_any_voided entry) 1 0
voided_step x (Setup settings) = no_more x.voided
voided_step x (Begin n amount account) = no_more x.voided
voided_step x (Declined n) = no_more x.voided
voided_step x (Completed n code) = no_more x.voided
voided_step x (Voided n) = refl
voided_step x (Cancelled n) = no_more x.voided
voided_step x (Closed p) = no_more x.voided
voided_step x (Acked m) = no_more x.voided
voided_step x (Part part) = no_more x.voided

pub voided_is : (entries : List TermEntry) → (index_of entries).voided ≡ count_by is_any_voided entries
voided_is entries = counted_from (λ x. x.voided) is_any_voided voided_step no_index entries
