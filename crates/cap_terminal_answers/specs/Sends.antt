-- What a terminal sends.
use Rattle.std.specs.Prelude.{◌≡◌, ℕ, ◌+◌, ◌<◌, ◌≤◌, Bool, true, false, List, length, take, Option, Some, None}
use Rattle.cap_base.specs.declared.item.Item.{Item}
use Rattle.cap_base.specs.declared.codes.DataSet.{DataSet}
use Rattle.cap_base.specs.declared.codes.DataSet.TheVariants.{Aqpr, Mgtp, Strp}
use Rattle.cap_leaf.specs.Date.{DateParts}
use Rattle.cap_sale_msgs.specs.declared.body.SaleBody.TheVariants.{AuthRequest, CancelRequest}
use Rattle.cap_batch_msgs.specs.declared.body.BatchBody.TheVariants.{Batch, Diagnostic}
use Rattle.cap_mgmt_msgs.specs.declared.body.MgmtBody.TheVariants.{Status}
use Rattle.cap_msgs.specs.declared.message.Body.{Body}
use Rattle.cap_msgs.specs.declared.message.Body.TheVariants.{Sale as Of_sale, Batch as Of_batch, Management as Of_management}
use Rattle.cap_msgs.specs.declared.message.Message.{Message}
use Rattle.cap_msgs.specs.Report.{advice_of}
use Rattle.cap_msgs.specs.Moment.{IsMoment, counter}
use Rattle.cap_entries.specs.declared.terminal.TermEntry.{TermEntry}
use Rattle.cap_entries.specs.declared.terminal.TermEntry.TheVariants.{Cancelled}
use Rattle.cap_entries.specs.Entry.{term_setup_of, is_pending, amount_of, account_of}
use Rattle.cap_entries.specs.Allowed.{allowed}
use Rattle.cap_entries.specs.Acked.{acked}
use Rattle.cap_entries.specs.InForce.{version_in_force, staged_from, staged_version, staged_count}
use Rattle.cap_plain.specs.Queue.{queue}
use Rattle.cap_terminal_answers.specs.Takes.{queue_head}

-- a message of a terminal to its host, by its set-up
abbrev pub message_of : List TermEntry → DateParts → (repeat : Option ℕ) → (number : ℕ) → Body → Message
message_of entries created repeat number body = record {
  header = record { exchange = number; repeat = repeat; created = created; from = (term_setup_of entries).terminal; to = (term_setup_of entries).host };
  body = body;
}

-- this is such a message, made at this moment, repeated so often
abbrev pub Is_message : List TermEntry → (moment repeat number : ℕ) → Body → Message → Type 0
Is_message entries moment repeat number body message =
    (created : DateParts) × IsMoment moment created × (message ≡ message_of entries created (counter repeat) number body)

-- a status report asks for parameters or for the plan
abbrev pub may_be_wanted : DataSet → Bool
may_be_wanted Aqpr = true
may_be_wanted Mgtp = true
may_be_wanted Strp = false

-- what a terminal may be asked to send
pub data Sending : Type 0 where
  Head : (repeat : ℕ) → Sending
  Batch_of : (limit repeat : ℕ) → Sending
  Ask : (n : ℕ) → Sending
  Ask_cancel : (n : ℕ) → Sending
  Diagnose : Sending
  Report_status : (wanted : DataSet) → Sending

-- it then sends this message: the oldest item of the queue; its first items; a question on a pending sale; on a completed one that isn't
-- cancelled; how far the host is, with the last item acknowledged; its versions, asking for a set of data
abbrev pub Sends : List TermEntry → Sending → (moment : ℕ) → Message → Type 0
Sends entries (Head repeat) moment message =
    (item : Item) × (queue_head entries ≡ Some item) × (repeat ≤ 999)
    × Is_message entries moment repeat (acked entries + 1) (advice_of item) message
Sends entries (Batch_of limit repeat) moment message =
    (1 ≤ limit) × (limit ≤ 100) × (repeat ≤ 999) × (0 < length (queue entries))
    × Is_message entries moment repeat (acked entries + 1) (Of_batch (Batch (take limit (queue entries)))) message
Sends entries (Ask n) moment message =
    (is_pending entries n ≡ true)
    × Is_message entries moment 0 n (Of_sale (AuthRequest (amount_of entries n) (account_of entries n))) message
Sends entries (Ask_cancel n) moment message =
    (allowed entries (Cancelled n) ≡ true)
    × Is_message entries moment 0 n (Of_sale (CancelRequest (amount_of entries n))) message
Sends entries Diagnose moment message = Is_message entries moment 0 0 (Of_batch (Diagnostic (acked entries))) message
Sends entries (Report_status wanted) moment message =
    (may_be_wanted wanted ≡ true)
    × Is_message entries moment 0 0 (Of_management (Status wanted (version_in_force entries) (staged_version (staged_from None entries)) (staged_count (staged_from None entries)))) message
