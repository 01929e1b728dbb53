-- What a terminal takes may be added.
use Rattle.std.proofs.Common.{◌≡◌, refl, ℕ, ◌<◌, Bool, true, false, not, List, [], ◌∷◌, length, Ok, ◌&&◌, sym, subst, arith, leb-false, ltb-true, le-leb}
use Rattle.std.specs.Prelude.{⊤, nat_le, nat_lt, Result, Err, IfOk, IfErr, OnOk}
use Rattle.cap_journal.specs.declared.journal.Journal.{Ghosts}
use Rattle.cap_ledger.specs.Appended.{OnlyNow}
use Rattle.std.proofs.lemmas.Bool.{cond_both, and_parts, ltb-false, false≢true}
use Rattle.cap_base.specs.declared.parameters.ConfigPart.{ConfigPart}
use Rattle.cap_sale_msgs.specs.declared.body.SaleBody.TheVariants.{AuthRequest, AuthAnswer, Completion, CompletionAnswer, CancelRequest, CancelAnswer, CancelAdvice, CancelAdviceAnswer}
use Rattle.cap_batch_msgs.specs.declared.body.BatchBody.TheVariants.{Reconcile, ReconcileAnswer, Batch, BatchAnswer, Diagnostic, DiagnosticAnswer, Rejection}
use Rattle.cap_mgmt_msgs.specs.declared.body.MgmtBody.TheVariants.{Status, Plan, Part as Part_body, ManagementRejection}
use Rattle.cap_mgmt_msgs.specs.Bodies.{is_part}
use Rattle.cap_fields.specs.Refused.{in_digits}
use Rattle.cap_msgs.specs.declared.message.Body.{Body}
use Rattle.cap_msgs.specs.declared.message.Body.TheVariants.{Sale as Of_sale, Batch as Of_batch, Management as Of_management}
use Rattle.cap_msgs.specs.Ranges.{is_header, is_body, is_message}
use Rattle.cap_msgs.specs.Received.{Received, Read, Unread}
use Rattle.cap_msgs.specs.Reply.{reply_of, Acknowledgement, Of_end, Of_cancel, Of_close, Of_items, acknowledges}
use Rattle.cap_entries.specs.declared.terminal.TermEntry.{TermEntry}
use Rattle.cap_entries.specs.declared.terminal.TermEntry.TheVariants.{Acked, Part}
use Rattle.cap_entries.specs.Items.{items}
use Rattle.cap_entries.specs.Acked.{acked}
use Rattle.cap_entries.specs.Allowed.{part_allowed}
use Rattle.cap_entries.specs.RecordField.{is_count}
use Rattle.cap_entries.specs.TermRecord.{term_reading}
use Rattle.cap_terminal_answers.specs.declared.handled.TermFault.{TermFault}
use Rattle.cap_terminal_answers.specs.declared.handled.TermFault.TheVariants as fault
use Rattle.cap_terminal_answers.specs.declared.handled.TermFault.TheVariants.{NotAwaited, NotForUs, Stale, Beyond}
use Rattle.cap_terminal_answers.specs.declared.handled.Handled.{Handled}
use Rattle.cap_terminal_answers.specs.declared.handled.Handled.TheVariants.{Part as Part_handled}
use Rattle.cap_terminal_answers.specs.Takes.{Taken, refuses, is_awaited, acked_answer, take_acknowledgement, take_part, take_reply, is_for_us, takes}
use Rattle.cap_terminal_answers.specs.Plain.{IsTakenFine}
use Rattle.cap_terminal.specs.Adding.{Adds, ending, take_as}
use Rattle.cap_terminal.specs.Causes.{IsAnswered, is_adding, IsTakeCause}
use Rattle.cap_terminal.specs.Handles.{Handles}
use Rattle.cap_terminal.proofs.Added.{lacks, gives}

abbrev Fine : List TermEntry → Taken → Type 0
Fine entries taken = IsTakenFine entries taken.added × IsAnswered taken.added taken.answer

ack_fine : (entries : List TermEntry) (m : ℕ) (ack : Acknowledgement) → Fine entries (take_acknowledgement entries m ack)
ack_fine entries m ack =
    cond_both (not (acknowledges ack)) (refuses NotAwaited) _ (Fine entries)
    (λ refused. (tt, tt))
    (λ approved.
    cond_both (nat_le m (acked entries)) (refuses (Stale m (acked entries))) _ (Fine entries)
    (λ stale. (tt, tt))
    (λ above.
    cond_both (nat_lt (length (items entries)) m) (refuses (Beyond m (length (items entries)))) _ (Fine entries)
    (λ beyond. (tt, tt))
    (λ within.
    cond_both (is_awaited entries m ack) (record { added = Acked m ∷ []; answer = Ok (acked_answer m ack) }) (refuses NotAwaited) (Fine entries)
    (λ awaited. ((leb-false m (acked entries) above, ltb-false (length (items entries)) m within), tt))
    (λ other. (tt, tt)))))

few_digits : (n : ℕ) → in_digits 10 n ≡ true → is_count n ≡ true
few_digits n few = let low : n < 10000000000 = ltb-true n 10000000000 few in le-leb n 9999999999 (omega (arith, low))

part_fine : (entries : List TermEntry) (part : ConfigPart) → is_part part ≡ true → Fine entries (take_part entries part)
part_fine entries part range =
    cond_both (part_allowed entries part) (record { added = Part part ∷ []; answer = Ok (Part_handled part.version part.part part.parts) }) (refuses NotAwaited) (Fine entries)
    (λ allowed. ((allowed, few_digits part.version (and_parts (in_digits 10 part.version) (in_digits 3 part.part && in_digits 3 part.parts) range).0), tt))
    (λ refused. (tt, tt))

body_fine : (entries : List TermEntry) (number : ℕ) (body : Body) → is_body body ≡ true → Fine entries (take_reply entries number (reply_of body))
body_fine entries number (Of_sale (AuthRequest amount account)) range = (tt, tt)
body_fine entries number (Of_sale (AuthAnswer response code)) range = (tt, tt)
body_fine entries number (Of_sale (Completion ended)) range = (tt, tt)
body_fine entries number (Of_sale (CompletionAnswer response)) range = ack_fine entries number (Of_end response)
body_fine entries number (Of_sale (CancelRequest amount)) range = (tt, tt)
body_fine entries number (Of_sale (CancelAnswer response)) range = (tt, tt)
body_fine entries number (Of_sale (CancelAdvice n amount)) range = (tt, tt)
body_fine entries number (Of_sale (CancelAdviceAnswer response)) range = ack_fine entries number (Of_cancel response)
body_fine entries number (Of_batch (Reconcile period totals)) range = (tt, tt)
body_fine entries number (Of_batch (ReconcileAnswer response period totals)) range = ack_fine entries number (Of_close response period totals)
body_fine entries number (Of_batch (Batch items')) range = (tt, tt)
body_fine entries number (Of_batch (BatchAnswer response last)) range = ack_fine entries last (Of_items response last)
body_fine entries number (Of_batch (Diagnostic last)) range = (tt, tt)
body_fine entries number (Of_batch (DiagnosticAnswer response last)) range = (tt, tt)
body_fine entries number (Of_batch (Rejection refused)) range = (tt, tt)
body_fine entries number (Of_management (Status wanted in_force staged parts)) range = (tt, tt)
body_fine entries number (Of_management (Plan actions)) range = (tt, tt)
body_fine entries number (Of_management (Part_body part)) range = part_fine entries part range
body_fine entries number (Of_management (ManagementRejection refused)) range = (tt, tt)

-- numbers of a message fit their digits
abbrev pub IsRanged : Received → Type 0
IsRanged (Unread fault) = ⊤
IsRanged (Read message) = is_message message ≡ true

pub taken_fine : (entries : List TermEntry) (received : Received) → IsRanged received → Fine entries (takes entries received)
taken_fine entries (Unread fault) range = (tt, tt)
taken_fine entries (Read message) range =
    cond_both (is_for_us entries message) (take_reply entries message.header.exchange (reply_of message.body)) (refuses NotForUs) (Fine entries)
    (λ ours. body_fine entries message.header.exchange message.body (and_parts (is_header message.header) (is_body message.body) range).1)
    (λ others. (tt, tt))

-- what is taken as `takes` says is fine
pub fine_result : {E : Type 0} (entries : List TermEntry) (received : Received) (result : Result Taken E) → IsRanged received → IfOk result (λ t. t ≡ takes entries received) → IfOk result (λ t. Fine entries t)
fine_result entries received (Ok taken) range is = subst (λ (t : Taken). Fine entries t) (sym is) (taken_fine entries received range)
fine_result entries received (Err fault) range is = tt

-- an answer is never a fault of the disk, nor of memory
not_disk : (added : List TermEntry) → IsAnswered added (Err fault.Disk) → ⊥
not_disk [] ok = ok
not_disk (entry ∷ entries) ok = ok

not_failed : (added : List TermEntry) → IsAnswered added (Err fault.Failed) → ⊥
not_failed [] ok = ok
not_failed (entry ∷ entries) ok = ok

-- a refusal is the stated one
pub refused_at : (has_failed : Bool) (added : List TermEntry) (answer : Result Handled TermFault) → IsAnswered added answer → IfErr answer (IsTakeCause has_failed (record { added = added; answer = answer }))
refused_at has_failed added (Ok handled) ok = tt
refused_at has_failed added (Err fault.Disk) ok = absurd (not_disk added ok)
refused_at has_failed added (Err fault.Failed) ok = absurd (not_failed added ok)
refused_at has_failed added (Err fault.Memory) ok = tt
refused_at has_failed added (Err (fault.Unread first)) ok = refl
refused_at has_failed added (Err fault.NotForUs) ok = refl
refused_at has_failed added (Err (fault.Rejected reason)) ok = refl
refused_at has_failed added (Err fault.NotAwaited) ok = refl
refused_at has_failed added (Err (fault.Stale m acked)) ok = refl
refused_at has_failed added (Err (fault.Beyond m len)) ok = refl

abbrev keeps : List TermEntry → Result Handled TermFault → Taken
keeps added answer = record { added = added; answer = answer }

module _ {J : Type 0} (g : Ghosts J TermEntry) (only_now : OnlyNow term_reading g (λ (journal : J). journal) g.has_failed) where
  -- where nothing is to be added
  pub none_handled : (old : J) (answer : Result Handled TermFault) → IsAnswered [] answer → Handles g old old answer (keeps [] answer)
  none_handled old answer ok = record { adds = nothing answer ok; answer = itself answer; answers = quietly answer; refused = refused_at (g.has_failed old) [] answer ok }
    where
      nothing : (answer : Result Handled TermFault) → IsAnswered [] answer → Adds g old old [] (ending take_as answer)
      nothing (Ok handled) ok = gives g only_now old
      nothing (Err fault.Disk) ok = absurd ok
      nothing (Err fault.Failed) ok = absurd ok
      nothing (Err fault.Memory) ok = absurd ok
      nothing (Err (fault.Unread first)) ok = lacks g only_now old []
      nothing (Err fault.NotForUs) ok = lacks g only_now old []
      nothing (Err (fault.Rejected reason)) ok = lacks g only_now old []
      nothing (Err fault.NotAwaited) ok = lacks g only_now old []
      nothing (Err (fault.Stale m acked)) ok = lacks g only_now old []
      nothing (Err (fault.Beyond m len)) ok = lacks g only_now old []

      itself : (answer : Result Handled TermFault) → IfOk answer (λ handled. answer ≡ Ok handled)
      itself (Ok handled) = refl
      itself (Err fault) = tt

      quietly : (answer : Result Handled TermFault) → OnOk answer (is_adding [] ≡ true → g.has_failed old ≡ false)
      quietly (Ok handled) = λ no. absurd (false≢true no)
      quietly (Err fault) = tt

  -- want of memory, whatever arrived
  pub memory_handled : (old : J) (taken : Taken) → Handles g old old (Err fault.Memory) taken
  memory_handled old taken = record { adds = lacks g only_now old taken.added; answer = tt; answers = tt; refused = tt }
