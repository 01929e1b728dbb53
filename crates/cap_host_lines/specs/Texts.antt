-- What is told of a reply.
use Rattle.std.specs.Prelude.{◌≡◌, ⊤, ℕ, List, Option, Some, None}
use Rattle.std.proofs.Common.{Vec, Global}
use Rattle.cap_leaf.specs.Date.{DateParts}
use Rattle.cap_msgs.specs.declared.message.Body.{Body}
use Rattle.cap_msgs.specs.declared.message.Message.{Message}
use Rattle.cap_msgs.specs.Moment.{IsMoment}
use Rattle.cap_msgs.specs.Reads.{Reads}
use Rattle.cap_msgs.specs.Received.{Received, Read}
use Rattle.cap_msgs.specs.Trees.{body_kind}
use Rattle.cap_entries.specs.declared.host.HostEntry.{HostEntry}
use Rattle.cap_host_answers.specs.Received.{reply_to}
use Rattle.cap_schedule.specs.declared.outcome.Outcome.{Outcome}
use Rattle.cap_schedule.specs.declared.outcome.Outcome.TheVariants.{Answered, Silent}
use Rattle.cap_plays.specs.Turns.{reason_of}
use Rattle.cap_plays.specs.Texts.{IsTextOf}
use Rattle.cap_host_lines.specs.declared.answer.Answer.{Answer}

-- a reply with this body, made at a moment: its text, its kind and why it rejects
pub record IsAnswer (entries : List HostEntry) (moment : ℕ) (received : Received) (body : Body) (answer : Answer) : Type 0 where
  pub created : DateParts
  pub is_moment : IsMoment moment created
  pub text_is : IsTextOf (reply_to entries created received body) answer.text.items
  pub kind_is : answer.kind ≡ body_kind body
  pub reason_is : answer.reason ≡ reason_of body

-- the same, where there is one
abbrev pub IsAnswered : List HostEntry → (moment : ℕ) → Received → Option Body → Option Answer → Type 0
IsAnswered entries moment received None None = ⊤
IsAnswered entries moment received None (Some answer) = ⊥
IsAnswered entries moment received (Some body) None = ⊥
IsAnswered entries moment received (Some body) (Some answer) = IsAnswer entries moment received body answer

-- what a line says to an answer, which has this place among the answers that count
abbrev pub outcome_of : Option ℕ → Option Answer → Outcome
outcome_of place None = Silent
outcome_of place (Some answer) = Answered place answer.kind answer.reason

abbrev pub reply_of : Option Answer → Option (Vec ℕ Global)
reply_of None = None
reply_of (Some answer) = Some answer.text

-- an answer with this text, by the message that it is
pub record IsMade (text : List ℕ) (message : Message) (answer : Answer) : Type 0 where
  pub text_is : answer.text.items ≡ text
  pub kind_is : answer.kind ≡ body_kind message.body
  pub reason_is : answer.reason ≡ reason_of message.body

-- by whatever message the text reads as
abbrev pub IsRead : (text : List ℕ) → Answer → Type 0
IsRead text answer = (message : Message) → Reads text (Read message) → IsMade text message answer
