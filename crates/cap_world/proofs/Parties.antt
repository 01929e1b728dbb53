-- A message of a terminal to its host gets the answer of its place; what is foreign gets a rejection or nothing.
use Rattle.std.proofs.Common.{◌≡◌, ℕ, Bool, true, List, [], Some, sym, ◌∙◌, ap, false, Option, None, refl, ⊎_elim}
use Rattle.std.specs.Prelude.{bytes_eq}
use Rattle.std.proofs.lemmas.Bool.{cond_both, cond-true, cond-false, false≢true}
use Rattle.cap_base.specs.declared.codes.Reason.{Reason}
use Rattle.cap_base.specs.declared.codes.Reason.TheVariants.{Msgt, Rcpp, Intp}
use Rattle.cap_leaf.specs.declared.header.Refused.{Refused}
use Rattle.cap_msgs.specs.declared.message.Body.{Body}
use Rattle.cap_msgs.specs.declared.message.Message.{Message}
use Rattle.cap_msgs.specs.Received.{Received, Read, Unread}
use Rattle.cap_msgs.specs.Report.{report_of, is_from_host, is_unanswered, is_management}
use Rattle.cap_msgs.specs.Reply.{Rejects, reply_of}
use Rattle.cap_entries.specs.declared.host.HostEntry.{HostEntry}
use Rattle.cap_entries.specs.Log.{setup_of}
use Rattle.cap_host_answers.specs.Answer.{Answered, refusal, answer_of}
use Rattle.cap_host_answers.specs.Received.{place_of, rejection, rejects, answer_from, answer_received, IsForeign}
use Rattle.cap_world.proofs.Named.{NamedMessage}

-- where the host is meant and the sender has this place, the answer is that of the place
pub received_is : (entries : List HostEntry) (message : Message) (place : ℕ) → (is_unanswered (report_of message.body) ≡ false) × (is_from_host (report_of message.body) ≡ false) → NamedMessage entries place message → answer_received entries (Read message) ≡ answer_of entries place message.header.exchange message.body
received_is entries message place (answered, own) named =
    cond-false (is_unanswered (report_of message.body)) _ _ answered
    ∙ (cond-false (is_from_host (report_of message.body)) _ _ own
    ∙ (cond-true (bytes_eq message.header.to (setup_of entries).host) _ _ named.to
    ∙ ap (λ (o : Option ℕ). answer_from entries o message.header.exchange message.body) named.from))

-- a rejection, or nothing
abbrev pub RejectedOnly : Option Body → Type 0
RejectedOnly None = Unit {0}
RejectedOnly (Some body) = (management : Bool) × (refused : Refused) × (body ≡ rejection management refused)

-- nothing is added, and the reply, if there is one, is a rejection
pub record Rejected_only (answered : Answered) : Type 0 where
  pub added : answered.added ≡ []
  pub reply : RejectedOnly answered.reply

rejects_only : (body : Body) (reason : Reason) → Rejected_only (rejects body reason)
rejects_only body reason = record { added = refl; reply = (is_management body, refusal reason, refl) }

-- bytes that aren't of a terminal of the set-up get a rejection or nothing, and add nothing
pub foreign_is_rejected : (entries : List HostEntry) (received : Received) → IsForeign entries received → Rejected_only (answer_received entries received)
foreign_is_rejected entries (Unread fault) foreign = record { added = refl; reply = (fault.management, _, refl) }
foreign_is_rejected entries (Read message) foreign =
    cond_both (is_unanswered (report_of message.body)) _ _ Rejected_only (λ _. record { added = refl; reply = tt })
    (λ _. cond_both (is_from_host (report_of message.body)) _ _ Rejected_only (λ _. rejects_only message.body Msgt)
    (λ _. cond_both (bytes_eq message.header.to (setup_of entries).host) _ _ Rejected_only
    (λ yes.
    ⊎_elim (λ (to : bytes_eq message.header.to (setup_of entries).host ≡ false). absurd (false≢true (sym to ∙ yes)))
    (λ (from : place_of entries message.header.from ≡ None). rw from (rejects_only message.body Intp)) foreign)
    (λ _. rejects_only message.body Rcpp)))

-- a rejection acknowledges nothing
pub rejection_reply : (management : Bool) (refused : Refused) → reply_of (rejection management refused) ≡ Rejects refused.reason
rejection_reply true refused = refl
rejection_reply false refused = refl
