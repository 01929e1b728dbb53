-- Parts of a host's replies.
use Rattle.std.specs.Prelude.{◌≡◌, ℕ, ◌≤◌, List, Option, Some, None, length}
use Rattle.cap_base.specs.declared.item.Totals.{Totals}
use Rattle.cap_base.specs.declared.codes.Response.TheVariants.{Decl}
use Rattle.cap_base.specs.Item.{totals_eq}
use Rattle.cap_batch_msgs.specs.declared.body.BatchBody.TheVariants.{ReconcileAnswer}
use Rattle.cap_msgs.specs.declared.message.Body.{Body}
use Rattle.cap_msgs.specs.declared.message.Body.TheVariants.{Batch as Of_batch}
use Rattle.cap_leaf.specs.Date.{DateParts}
use Rattle.cap_msgs.specs.Trees.{text_of}
use Rattle.cap_msgs.specs.Moment.{IsMoment}
use Rattle.cap_msgs.specs.Received.{Received, Read}
use Rattle.cap_msgs.specs.Reads.{Reads}
use Rattle.cap_entries.specs.declared.host.HostEntry.{HostEntry}
use Rattle.cap_host_answers.specs.Answer.{approved_if}
use Rattle.cap_host_answers.specs.Received.{reply_to}
use Rattle.cap_answering.specs.declared.reply.Reply.{Reply}
use Rattle.cap_answering.specs.declared.reply.Reply.TheVariants.{Bytes, Silent}

-- the answer of a closing, by the host's totals of its period
abbrev pub reconciled_with : ℕ → Totals → Totals → Body
reconciled_with p totals own = Of_batch (ReconcileAnswer (approved_if (totals_eq own totals) Decl) p own)

-- this is the text of a reply with this body, made at this moment
pub record IsText (entries : List HostEntry) (moment : ℕ) (received : Received) (body : Body) (text : List ℕ) : Type 0 where
  pub created : DateParts
  pub is_moment : IsMoment moment created
  pub text_is : text ≡ text_of (reply_to entries created received body)
  pub reads : Reads text (Read (reply_to entries created received body))
  pub some : 1 ≤ length text
  pub few : length text ≤ 32768

-- this is given to what was received: the text of its reply, or nothing where the host is silent
abbrev pub IsReply : List HostEntry → (moment : ℕ) → Received → Option Body → Reply → Type 0
IsReply entries moment received None reply = reply ≡ Silent
IsReply entries moment received (Some body) Silent = ⊥
IsReply entries moment received (Some body) (Bytes text) = IsText entries moment received body text
