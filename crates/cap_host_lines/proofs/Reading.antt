-- What is known of a reply by reading its text.
use Rattle.std.proofs.Common.{◌≡◌, ℕ, List, Option, Some, None, Ok, Err, sym, ◌∙◌, subst}
use Rattle.std.specs.Prelude.{Result, IfOk, OnOk, IsSomeAnd}
use Rattle.cap_disk.specs.Disk.{Counts}
use Rattle.cap_journal.specs.declared.journal.Journal.{Ghosts}
use Rattle.cap_msgs.specs.declared.message.Body.{Body}
use Rattle.cap_msgs.specs.declared.message.Message.{Message}
use Rattle.cap_msgs.specs.Ranges.{IsSpellable}
use Rattle.cap_msgs.specs.Received.{Received, Read}
use Rattle.cap_msgs.specs.Reads.{Reads}
use Rattle.cap_entries.specs.declared.host.HostEntry.{HostEntry}
use Rattle.cap_answering.specs.declared.fault.HostFault.{HostFault}
use Rattle.cap_answering.specs.declared.fault.HostFault.TheVariants as H
use Rattle.cap_host_answers.specs.Received.{answer_received, reply_to}
use Rattle.cap_host.specs.declared.host.Host.{Host}
use Rattle.cap_answering.specs.declared.reply.Reply.{Reply}
use Rattle.cap_answering.specs.declared.reply.Reply.TheVariants as R
use Rattle.cap_host.specs.Host.{entries_of, fault_of}
use Rattle.cap_host.specs.Reply.{IsReply}
use Rattle.cap_plays.specs.declared.fault.LineFault.{LineFault}
use Rattle.cap_plays.specs.declared.fault.LineFault.TheVariants.{Disk, Memory}
use Rattle.cap_host_lines.specs.declared.answer.Answer.{Answer}
use Rattle.cap_host_lines.specs.Texts.{IsAnswered, IsMade, IsRead}
use Rattle.cap_host_lines.specs.Says.{ReadAs, said_counted, said_dropped}
use Rattle.cap_host_lines.specs.Acts.{ChangedBy, HeardBy}

-- the text reads as one message
pub is_read : (result : Result (Option Answer) LineFault) (bytes : List ℕ) (message : Message) → Reads bytes (Read message)
    → ((text : List ℕ) (r s : Received) → Reads text r → Reads text s → r ≡ s)
    → IfOk result (λ given. IsSomeAnd given (λ answer. IsMade bytes message answer)) → IfOk result (λ given. IsSomeAnd given (λ answer. IsRead bytes answer))
is_read (Ok (Some answer)) bytes message reads one made = λ other reads_too.
    let both : Read message ≡ Read other = one bytes (Read message) (Read other) reads reads_too in
    let same : message ≡ other = cc in
    subst (λ (m : Message). IsMade bytes m answer) same made
is_read (Ok None) bytes message reads one made = made
is_read (Err fault) bytes message reads one made = tt

silent : (entries : List HostEntry) (moment : ℕ) (received : Received) (body : Option Body) → IsReply entries moment received body R.Silent → IsAnswered entries moment received body None
silent entries moment received None is = tt
silent entries moment received (Some body) is = absurd is

not_silent : (text : List ℕ) → R.Bytes text ≡ R.Silent → ⊥
not_silent text e = cc

spoken : (entries : List HostEntry) (moment : ℕ) (received : Received) (body : Option Body) (text : List ℕ) (answer : Answer)
    → ((bytes : List ℕ) (m : Message) → Reads bytes (Read m) → IsSpellable m)
    → IsReply entries moment received body (R.Bytes text) → IsRead text answer → IsAnswered entries moment received body (Some answer)
spoken entries moment received None text answer spellable is read = absurd (not_silent text is)
spoken entries moment received (Some body) text answer spellable is read =
    let message = reply_to entries is.created received body in
    let made = read message is.reads in record {
      created = is.created;
      is_moment = is.is_moment;
      text_is = record { text_is = made.text_is ∙ is.text_is; spellable = spellable text message is.reads };
      kind_is = made.kind_is;
      reason_is = made.reason_is;
    }

not_memory : Disk ≡ Memory → ⊥
not_memory e = cc

-- what was heard, by what the host gave and what was read of it
pub heard : {J : Type 0} {g : Ghosts J HostEntry} (old new : Host J g) (moment : ℕ) (received : Received) (given : Result Reply HostFault) (result : Result (Option Answer) LineFault) (before : Counts)
    → IfOk given (λ reply. IsReply (entries_of old) moment received (answer_received (entries_of old) received).reply reply)
    → ChangedBy old new (answer_received (entries_of old) received).added before (fault_of given)
    → ((bytes : List ℕ) (m : Message) → Reads bytes (Read m) → IsSpellable m)
    → ReadAs given result → HeardBy old new moment received before result
heard old new moment received (Ok R.Silent) result before told changed spellable is =
    subst (λ (r : Result (Option Answer) LineFault). HeardBy old new moment received before r) (sym is)
    (silent (entries_of old) moment received (answer_received (entries_of old) received).reply told, changed)
heard old new moment received (Ok (R.Bytes text)) (Ok (Some answer)) before told changed spellable is =
    (spoken (entries_of old) moment received (answer_received (entries_of old) received).reply text answer spellable told is.0, changed)
heard old new moment received (Ok (R.Bytes text)) (Ok None) before told changed spellable is = absurd is.0
heard old new moment received (Ok (R.Bytes text)) (Err Disk) before told changed spellable is = absurd (not_memory is.1)
heard old new moment received (Ok (R.Bytes text)) (Err Memory) before told changed spellable is = tt
heard old new moment received (Err H.Memory) result before told changed spellable is = subst (λ (r : Result (Option Answer) LineFault). HeardBy old new moment received before r) (sym is) tt
heard old new moment received (Err H.Disk) result before told changed spellable is = subst (λ (r : Result (Option Answer) LineFault). HeardBy old new moment received before r) (sym is) changed
heard old new moment received (Err H.Failed) result before told changed spellable is = absurd changed

-- what holds where the host gave a reply
on_ok : {T E : Type 0} (P : Type 0) (result : Result T E) → P → OnOk result P
on_ok P (Ok value) p = p
on_ok P (Err error) p = tt

pub read_on : (P : Type 0) (given : Result Reply HostFault) (result : Result (Option Answer) LineFault) → ReadAs given result → OnOk given P → OnOk result P
read_on P (Ok reply) result is p = on_ok P result p
read_on P (Err H.Memory) result is p = subst (λ (r : Result (Option Answer) LineFault). OnOk r P) (sym is) tt
read_on P (Err H.Disk) result is p = subst (λ (r : Result (Option Answer) LineFault). OnOk r P) (sym is) tt
read_on P (Err H.Failed) result is p = subst (λ (r : Result (Option Answer) LineFault). OnOk r P) (sym is) tt

pub counted_on : (P : Type 0) (place : ℕ) (given : Result (Option Answer) LineFault) → OnOk given P → OnOk (said_counted place given) P
counted_on P place (Ok answer) p = p
counted_on P place (Err fault) p = tt

pub dropped_on : (P : Type 0) (given : Result (Option Answer) LineFault) → OnOk given P → OnOk (said_dropped given) P
dropped_on P (Ok answer) p = p
dropped_on P (Err fault) p = tt
