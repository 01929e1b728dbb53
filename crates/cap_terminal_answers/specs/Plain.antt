-- What a terminal makes of what the host tells it, by what is to be known of the queue.
use Rattle.std.specs.Prelude.{◌≡◌, ℕ, ◌+◌, ◌<◌, ◌≤◌, ⊤, Bool, true, ◌&&◌, not, nat_le, nat_lt, ◌==◌, if◌then◌else◌, List, [], ◌∷◌, length, Ok}
use Rattle.std.proofs.Common.{refl}
use Rattle.cap_sale_msgs.specs.declared.body.SaleBody.{SaleBody}
use Rattle.cap_sale_msgs.specs.declared.body.SaleBody.TheVariants.{AuthRequest, AuthAnswer, Completion, CompletionAnswer, CancelRequest, CancelAnswer, CancelAdvice, CancelAdviceAnswer}
use Rattle.cap_batch_msgs.specs.declared.body.BatchBody.{BatchBody}
use Rattle.cap_batch_msgs.specs.declared.body.BatchBody.TheVariants.{Reconcile, ReconcileAnswer, Batch, BatchAnswer, Diagnostic, DiagnosticAnswer, Rejection}
use Rattle.cap_msgs.specs.declared.message.Body.TheVariants.{Sale as Of_sale, Batch as Of_batch}
use Rattle.cap_msgs.specs.Reply.{Reply, Rejects, Decides_sale, Decides_cancel, Tells_state, Gives_plan, Gives_part, Acknowledges, From_terminal, reply_of, Acknowledgement, Of_end, Of_cancel, Of_close, Of_items, acknowledges, named_item}
use Rattle.cap_entries.specs.declared.terminal.TermEntry.{TermEntry}
use Rattle.cap_entries.specs.declared.terminal.TermEntry.TheVariants.{Acked, Part}
use Rattle.cap_entries.specs.Items.{items}
use Rattle.cap_entries.specs.Acked.{acked}
use Rattle.cap_entries.specs.Allowed.{part_allowed}
use Rattle.cap_entries.specs.RecordField.{is_count}
use Rattle.cap_terminal_answers.specs.declared.handled.Handled.{Handled}
use Rattle.cap_terminal_answers.specs.declared.handled.Handled.TheVariants.{Authorisation, CancelAnswer as Cancel_handled, Diagnosed, Plan}
use Rattle.cap_terminal_answers.specs.declared.handled.TermFault.TheVariants.{NotAwaited, Stale, Beyond, Rejected}
use Rattle.cap_terminal_answers.specs.declared.queue.QueueView.{QueueView}
use Rattle.cap_terminal_answers.specs.Takes.{Taken, tells, refuses, queue_head, is_sale_or_void, is_cancel_item, is_close_item, acked_answer, take_reply}

-- what is to be known of the queue
abbrev pub queue_view : List TermEntry → QueueView
queue_view entries = record { acked = acked entries; len = length (items entries); head = queue_head entries }

-- an acknowledgement of the items up to m
abbrev pub acknowledges_so : QueueView → ℕ → (approves awaited : Bool) → Handled → Taken
acknowledges_so view m approves awaited answer =
    if not approves then refuses NotAwaited
    else (if nat_le m view.acked then refuses (Stale m view.acked)
    else (if nat_lt view.len m then refuses (Beyond m view.len)
    else (if awaited then record { added = Acked m ∷ []; answer = Ok answer }
    else refuses NotAwaited)))

abbrev pub awaits : QueueView → ℕ → Acknowledgement → Bool
awaits view m (Of_end response) = (m == view.acked + 1) && is_sale_or_void view.head
awaits view m (Of_cancel response) = (m == view.acked + 1) && is_cancel_item view.head
awaits view m (Of_close response period totals) = (m == view.acked + 1) && is_close_item period view.head
awaits view m (Of_items response last) = true

-- what the host tells under this number, but a part of a parameter set
abbrev pub take_told : QueueView → ℕ → Reply → Taken
take_told view number (Rejects reason) = refuses (Rejected reason)
take_told view number (Decides_sale response code) = tells (Authorisation (record { n = number; response = response; code = code }))
take_told view number (Decides_cancel response) = tells (Cancel_handled number response)
take_told view number (Tells_state last) = tells (Diagnosed last)
take_told view number (Gives_plan actions) = tells (Plan actions)
take_told view number (Gives_part part) = refuses NotAwaited
take_told view number (Acknowledges ack) = acknowledges_so view (named_item number ack) (acknowledges ack) (awaits view (named_item number ack) ack) (acked_answer (named_item number ack) ack)
take_told view number From_terminal = refuses NotAwaited

-- it is what the terminal takes
pub told_sale : (entries : List TermEntry) (number : ℕ) (body : SaleBody) → take_told (queue_view entries) number (reply_of (Of_sale body)) ≡ take_reply entries number (reply_of (Of_sale body))
told_sale entries number (AuthRequest amount account) = refl
told_sale entries number (AuthAnswer response code) = refl
told_sale entries number (Completion ended) = refl
told_sale entries number (CompletionAnswer response) = refl
told_sale entries number (CancelRequest amount) = refl
told_sale entries number (CancelAnswer response) = refl
told_sale entries number (CancelAdvice n amount) = refl
told_sale entries number (CancelAdviceAnswer response) = refl

pub told_batch : (entries : List TermEntry) (number : ℕ) (body : BatchBody) → take_told (queue_view entries) number (reply_of (Of_batch body)) ≡ take_reply entries number (reply_of (Of_batch body))
told_batch entries number (Reconcile period totals) = refl
told_batch entries number (ReconcileAnswer response period totals) = refl
told_batch entries number (Batch items) = refl
told_batch entries number (BatchAnswer response last) = refl
told_batch entries number (Diagnostic last) = refl
told_batch entries number (DiagnosticAnswer response last) = refl
told_batch entries number (Rejection refused) = refl

-- what is to be added may be added, and fits its record
abbrev pub IsTakenFine : List TermEntry → List TermEntry → Type 0
IsTakenFine entries [] = ⊤
IsTakenFine entries (Acked m ∷ []) = (acked entries < m) × (m ≤ length (items entries))
IsTakenFine entries (Part part ∷ []) = (part_allowed entries part ≡ true) × (is_count part.version ≡ true)
IsTakenFine entries _ = ⊥
