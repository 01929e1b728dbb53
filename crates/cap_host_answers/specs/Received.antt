-- What a host adds and answers to whatever arrives: from anyone, to anyone, or no document.
use Rattle.std.specs.Prelude.{◌≡◌, ◌⊎◌, ℕ, suc, Bool, true, false, not, if◌then◌else◌, List, [], ◌∷◌, Option, Some, None, bytes_eq, codes, length}
use Rattle.cap_base.specs.declared.codes.Reason.{Reason}
use Rattle.cap_base.specs.declared.codes.Reason.TheVariants.{Intp, Rcpp, Msgt}
use Rattle.cap_leaf.specs.Date.{DateParts}
use Rattle.cap_leaf.specs.declared.header.Header.{Header}
use Rattle.cap_leaf.specs.declared.header.Refused.{Refused}
use Rattle.cap_leaf.specs.declared.fault.Fault.{Fault}
use Rattle.cap_batch_msgs.specs.declared.body.BatchBody.TheVariants.{Rejection}
use Rattle.cap_mgmt_msgs.specs.declared.body.MgmtBody.TheVariants.{ManagementRejection}
use Rattle.cap_msgs.specs.declared.message.Body.{Body}
use Rattle.cap_msgs.specs.declared.message.Body.TheVariants.{Batch as Of_batch, Management as Of_management}
use Rattle.cap_msgs.specs.declared.message.Message.{Message}
use Rattle.cap_msgs.specs.Report.{report_of, is_from_host, is_unanswered, is_management}
use Rattle.cap_msgs.specs.Received.{Received, Read, Unread}
use Rattle.cap_msgs.specs.Moment.{IsMoment}
use Rattle.cap_entries.specs.declared.host.HostEntry.{HostEntry}
use Rattle.cap_entries.specs.Log.{setup_of}
use Rattle.cap_host_answers.specs.Answer.{Answered, silent, answers, refusal, answer_of}

-- the place of a name, where places count on from the first argument
abbrev pub place_from : ℕ → List (List ℕ) → List ℕ → Option ℕ
place_from place [] name = None
place_from place (other ∷ others) name = if bytes_eq other name then Some place else place_from (suc place) others name

-- a terminal's place in the set-up
abbrev pub place_of : List HostEntry → List ℕ → Option ℕ
place_of entries name = place_from 0 (setup_of entries).terminals name

-- caaa.015, or catm.004 to a message of management
abbrev pub rejection : Bool → Refused → Body
rejection true refused = Of_management (ManagementRejection refused)
rejection false refused = Of_batch (Rejection refused)

abbrev pub rejects : Body → Reason → Answered
rejects body reason = answers (rejection (is_management body) (refusal reason))

-- by the sender's place
abbrev pub answer_from : List HostEntry → Option ℕ → ℕ → Body → Answered
answer_from entries None number body = rejects body Intp
answer_from entries (Some place) number body = answer_of entries place number body

-- a message of anyone, to anyone
abbrev pub answer_message : List HostEntry → Message → Answered
answer_message entries message =
    if is_unanswered (report_of message.body) then silent
    else (if is_from_host (report_of message.body) then rejects message.body Msgt
    else (if bytes_eq message.header.to (setup_of entries).host
    then answer_from entries (place_of entries message.header.from) message.header.exchange message.body
    else rejects message.body Rcpp))

-- whatever arrives
abbrev pub answer_received : List HostEntry → Received → Answered
answer_received entries (Unread fault) = answers (rejection fault.management (record { reason = fault.reason; expected = None; place = Some fault.place }))
answer_received entries (Read message) = answer_message entries message

-- who sent it, and the number of its exchange
abbrev pub sender_of : Received → Option (List ℕ)
sender_of (Unread fault) = fault.from
sender_of (Read message) = Some message.header.from

abbrev pub number_of : Received → ℕ
number_of (Unread fault) = fault.exchange
number_of (Read message) = message.header.exchange

abbrev pub name_or : Option (List ℕ) → List ℕ
name_or None = codes "UNKNOWN"
name_or (Some name) = name

-- a reply comes from the host, goes to the sender, with its number and without a counter
abbrev pub reply_to : List HostEntry → DateParts → Received → Body → Message
reply_to entries created received body = record {
  header = record { exchange = number_of received; repeat = None; created = created; from = (setup_of entries).host; to = name_or (sender_of received) };
  body = body;
}

-- these are the messages of a reply that is made at this moment: one, or none where the host is silent
abbrev pub Replies : List HostEntry → (moment : ℕ) → Received → Option Body → List Message → Type 0
Replies entries moment received None messages = messages ≡ []
Replies entries moment received (Some body) messages =
    (created : DateParts) × IsMoment moment created × (messages ≡ reply_to entries created received body ∷ [])

-- the place of the terminal that a reply names; past the last one where it names none
abbrev pub place_or : Option ℕ → ℕ → ℕ
place_or None none = none
place_or (Some place) none = place

abbrev pub place_named : List HostEntry → Received → ℕ
place_named entries received = place_or (place_of entries (name_or (sender_of received))) (length (setup_of entries).terminals)

-- it isn't a message of a terminal of the set-up to this host
abbrev pub IsForeign : List HostEntry → Received → Type 0
IsForeign entries (Unread fault) = Unit {0}
IsForeign entries (Read message) =
    (bytes_eq message.header.to (setup_of entries).host ≡ false)
    ⊎ (place_of entries message.header.from ≡ None)
