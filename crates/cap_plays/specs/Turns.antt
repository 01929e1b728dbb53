-- What each line does, where no power cut and no fault comes: its steps in order, and its outcome.
use Rattle.std.specs.Prelude.{ℕ, ◌+◌, ◌-◌, Bool, true, false, not, nat_le, nat_lt, ◌==◌, if◌then◌else◌, List, [], ◌∷◌, ◌++◌, length, take, Option, Some, None, Result, Ok, Err, slice_get, count_by}
use Rattle.std.specs.List.{list_any}
use Rattle.cap_base.specs.declared.item.Item.{Item}
use Rattle.cap_base.specs.declared.codes.Reason.{Reason}
use Rattle.cap_base.specs.declared.codes.Response.{Response}
use Rattle.cap_base.specs.declared.codes.Response.TheVariants.{Appr}
use Rattle.cap_leaf.specs.Date.{DateParts}
use Rattle.cap_sale_msgs.specs.declared.body.SaleBody.TheVariants.{AuthRequest, CancelRequest}
use Rattle.cap_batch_msgs.specs.declared.body.BatchBody.TheVariants.{Batch, Diagnostic, Rejection}
use Rattle.cap_mgmt_msgs.specs.declared.body.MgmtBody.TheVariants.{Status, ManagementRejection}
use Rattle.cap_msgs.specs.declared.message.Body.{Body}
use Rattle.cap_msgs.specs.declared.message.Body.TheVariants.{Sale as Of_sale, Batch as Of_batch, Management as Of_management}
use Rattle.cap_msgs.specs.declared.message.Message.{Message}
use Rattle.cap_msgs.specs.Received.{Received, Read}
use Rattle.cap_msgs.specs.Report.{advice_of}
use Rattle.cap_msgs.specs.Trees.{body_kind}
use Rattle.cap_entries.specs.declared.terminal.TermEntry.{TermEntry}
use Rattle.cap_entries.specs.declared.terminal.TermEntry.TheVariants.{Begin, Completed, Voided, Declined, Cancelled, Closed}
use Rattle.cap_entries.specs.declared.host.HostEntry.{HostEntry}
use Rattle.cap_entries.specs.declared.host.HostEntry.TheVariants.{Published}
use Rattle.cap_entries.specs.Entry.{is_any_begin, is_begin, is_any_closed, is_pending, is_completed, amount_of, account_of, max_of}
use Rattle.cap_entries.specs.Acked.{acked}
use Rattle.cap_entries.specs.Floor.{floor}
use Rattle.cap_entries.specs.Allowed.{allowed}
use Rattle.cap_entries.specs.InForce.{version_in_force, staged_from, staged_version, staged_count}
use Rattle.cap_entries.specs.Log.{published}
use Rattle.cap_plain.specs.Queue.{queue}
use Rattle.cap_sale.specs.declared.response.AuthResponse.{AuthResponse}
use Rattle.cap_terminal_answers.specs.declared.handled.Handled.{Handled}
use Rattle.cap_terminal_answers.specs.declared.handled.Handled.TheVariants as H
use Rattle.cap_terminal_answers.specs.declared.handled.TermFault.{TermFault}
use Rattle.cap_terminal_answers.specs.declared.handled.TermFault.TheVariants as F
use Rattle.cap_terminal_answers.specs.Takes.{takes, queue_head}
use Rattle.cap_terminal_answers.specs.Does.{offline_code, Decision, Leave, Complete, Give_up, Decline}
use Rattle.cap_terminal_answers.specs.Sends.{message_of, Sending, Head, Batch_of, Ask, Ask_cancel, Diagnose, Report_status}
use Rattle.cap_host_answers.specs.Received.{answer_received, reply_to, place_named}
use Rattle.cap_schedule.specs.declared.outcome.Outcome.{Outcome}
use Rattle.cap_schedule.specs.declared.outcome.Outcome.TheVariants as O
use Rattle.cap_schedule.specs.declared.schedule.Order.{Order}
use Rattle.cap_schedule.specs.declared.schedule.Order.TheVariants as T
use Rattle.cap_schedule.specs.declared.schedule.HostOrder.{HostOrder}
use Rattle.cap_schedule.specs.declared.schedule.HostOrder.TheVariants as W
use Rattle.cap_world.specs.World.{TerminalState, HostState, World, TerminalAction, Begins, Offline, Gives_up, Cancels, Closes, Sends_message, Takes_answer, Hears_foreign, HostAction, Answers, Answers_foreign, Publishes}

-- A world in the midst of a schedule. In the world each reply of the host stands in the answers of the terminal that it names. A schedule drops the
-- replies to noise: for each terminal `counted` has the places, in its answers, of those that the schedule counts, so that the J-th answer of a line
-- is the answer at the J-th of these places.
pub record Scene : Type 0 where
  pub host : HostState
  pub terminals : List TerminalState
  pub counted : List (List ℕ)

abbrev pub world_of : Scene → World
world_of w = record { host = w.host; terminals = w.terminals }

abbrev pub places_or_none : Option (List ℕ) → List ℕ
places_or_none None = []
places_or_none (Some places) = places

abbrev pub counted_at : List (List ℕ) → ℕ → List ℕ
counted_at counted place = places_or_none (slice_get counted place)

-- the one with this number, from 1
abbrev pub nth : {A : Type 0} → List A → ℕ → Option A
nth list k = if k == 0 then None else slice_get list (k - 1)

-- a step of a terminal: what it does, adds and sends
pub record Work : Type 0 where
  pub action : TerminalAction
  pub added : List TermEntry
  pub sent : List Message

-- the terminal after a step
abbrev pub worked : TerminalState → Work → TerminalState
worked s work = record { settled = s.settled ++ work.added; tried = []; on = true; sent = s.sent ++ work.sent; answers = s.answers }

abbrev pub adds : TerminalAction → TermEntry → Work
adds action entry = record { action = action; added = entry ∷ []; sent = [] }

-- the steps of a line, and its outcome
pub record Turn : Type 0 where
  pub works : List Work
  pub outcome : Outcome

-- a line that makes no step
abbrev pub says : Outcome → Turn
says outcome = record { works = []; outcome = outcome }

abbrev pub makes : Work → Outcome → Turn
makes work outcome = record { works = work ∷ []; outcome = outcome }

-- the same, behind a step
abbrev pub behind : Work → Turn → Turn
behind work turn = record { works = work ∷ turn.works; outcome = turn.outcome }

abbrev pub next_sale : List TermEntry → ℕ
next_sale entries = count_by is_any_begin entries + 1

abbrev pub next_period : List TermEntry → ℕ
next_period entries = count_by is_any_closed entries + 1

abbrev pub begins : List TermEntry → ℕ → List ℕ → Work
begins entries amount account = adds (Begins amount account) (Begin (next_sale entries) amount account)

abbrev pub completes_offline : ℕ → Work
completes_offline n = adds (Offline n) (Completed n offline_code)

-- a pending sale within the floor is completed
abbrev pub offline_turn : TerminalState → ℕ → Turn
offline_turn s n =
    if is_pending s.settled n
    then (if nat_le (amount_of s.settled n) (floor s.settled) then makes (completes_offline n) (O.Sold n) else says (O.AboveFloor n))
    else says (O.NotPending n)

-- a message is sent, for the first time
abbrev pub sends : TerminalState → Sending → (moment : ℕ) → DateParts → ℕ → Body → Turn
sends s what moment created number body =
    makes (record { action = Sends_message what moment; added = []; sent = message_of s.settled created None number body ∷ [] }) (O.Sent (length s.sent + 1))

abbrev pub sends_head : TerminalState → (moment : ℕ) → DateParts → Option Item → Turn
sends_head s moment created None = says O.NothingQueued
sends_head s moment created (Some item) = sends s (Head 0) moment created (acked s.settled + 1) (advice_of item)

-- why a sale can't be cancelled, or what is done where it can
abbrev pub why_not_cancelled : List TermEntry → ℕ → Outcome
why_not_cancelled entries n =
    if not (list_any (is_begin n) entries) then O.NoSale n
    else (if not (is_completed entries n) then O.NotCompleted n else O.AlreadyCancelled n)

abbrev pub if_cancellable : List TermEntry → ℕ → Turn → Turn
if_cancellable entries n turn = if allowed entries (Cancelled n) then turn else says (why_not_cancelled entries n)

-- what becomes of a pending sale by the host's decision, and what the line says to an answer
pub record Decided : Type 0 where
  pub decision : Decision
  pub added : List TermEntry
  pub outcome : Outcome

abbrev pub left_with : Outcome → Decided
left_with outcome = record { decision = Leave; added = []; outcome = outcome }

-- an approved sale is completed, or given up where the customer walks out
abbrev pub on_approval : (walks_out : Bool) → ℕ → List ℕ → Decided
on_approval true n code = record { decision = Give_up; added = Voided n ∷ []; outcome = O.GivenUp n }
on_approval false n code = record { decision = Complete; added = Completed n code ∷ []; outcome = O.Sold n }

-- any other is declined
abbrev pub on_response : (walks_out : Bool) → ℕ → Response → List ℕ → Decided
on_response walks_out n Appr code = on_approval walks_out n code
on_response walks_out n _ code = record { decision = Decline; added = Declined n ∷ []; outcome = O.DeclinedSale n }

abbrev pub on_authorisation : (walks_out : Bool) → List TermEntry → AuthResponse → Decided
on_authorisation walks_out entries given =
    if is_pending entries given.n then on_response walks_out given.n given.response given.code else left_with (O.NotPending given.n)

abbrev pub on_handled : (walks_out : Bool) → List TermEntry → Handled → Decided
on_handled walks_out entries (H.Authorisation given) = on_authorisation walks_out entries given
on_handled walks_out entries (H.CancelAnswer n response) = left_with (O.CancelAnswered n response)
on_handled walks_out entries (H.Diagnosed last) = left_with (O.Diagnosed last)
on_handled walks_out entries (H.Plan actions) = left_with (O.PlanOf (length actions))
on_handled walks_out entries (H.Part version part parts) = left_with (O.PartAdded version part parts)
on_handled walks_out entries (H.Acked m) = left_with (O.AckedUpTo m)
on_handled walks_out entries (H.Reconciled m totals agree) = left_with (O.AckedUpTo m)

-- the last three are no answers to what arrives
abbrev pub fault_outcome : TermFault → Outcome
fault_outcome (F.Unread fault) = O.Unread fault.reason fault.place
fault_outcome F.NotForUs = O.NotForUs
fault_outcome (F.Rejected reason) = O.Rejected reason
fault_outcome F.NotAwaited = O.NotAwaited
fault_outcome (F.Stale m acked) = O.Stale m acked
fault_outcome (F.Beyond m len) = O.Beyond m len
fault_outcome F.Disk = O.DiskFailed
fault_outcome F.Failed = O.DiskFailed
fault_outcome F.Memory = O.DiskFailed

abbrev pub decided : (walks_out : Bool) → List TermEntry → Result Handled TermFault → Decided
decided walks_out entries (Ok handled) = on_handled walks_out entries handled
decided walks_out entries (Err fault) = left_with (fault_outcome fault)

-- by what arrives
abbrev pub decides_on : (walks_out : Bool) → List TermEntry → Received → Decided
decides_on walks_out entries received = decided walks_out entries (takes entries received).answer

-- the answer at a place is delivered
abbrev pub hears_it : (walks_out : Bool) → TerminalState → (j place : ℕ) → Option Message → Turn
hears_it walks_out s j place None = says (O.NoMessage j)
hears_it walks_out s j place (Some message) =
    makes (record {
      action = Takes_answer place (decides_on walks_out s.settled (Read message)).decision;
      added = (takes s.settled (Read message)).added ++ (decides_on walks_out s.settled (Read message)).added;
      sent = [];
    }) (decides_on walks_out s.settled (Read message)).outcome

-- the J-th of those that count
abbrev pub hears : (walks_out : Bool) → TerminalState → ℕ → Option ℕ → Turn
hears walks_out s j None = says (O.NoMessage j)
hears walks_out s j (Some place) = hears_it walks_out s j place (slice_get s.answers place)

-- bytes of nobody's are delivered
abbrev pub hears_noise : TerminalState → Received → Turn
hears_noise s received = makes (record { action = Hears_foreign received; added = []; sent = [] }) (decides_on false s.settled received).outcome

-- what a line makes at a terminal that is on, at a moment and the date and time that show it. `reads` says what bytes read as; `counted` are the
-- places of the answers that count
abbrev pub turn_of : (reads : List ℕ → Received) → TerminalState → (counted : List ℕ) → (moment : ℕ) → DateParts → Order → Turn
turn_of reads s counted moment created (T.Begin amount account) =
    if nat_lt (count_by is_any_begin s.settled) (max_of s.settled) then makes (begins s.settled amount account) (O.Begun (next_sale s.settled)) else says (O.Limit (max_of s.settled))
turn_of reads s counted moment created (T.Offline n) = offline_turn s n
-- a sale is begun, and then completed as `offline` does
turn_of reads s counted moment created (T.Sale amount account) =
    if nat_lt (count_by is_any_begin s.settled) (max_of s.settled)
    then behind (begins s.settled amount account) (offline_turn (worked s (begins s.settled amount account)) (next_sale s.settled))
    else says (O.Limit (max_of s.settled))
turn_of reads s counted moment created (T.Void n) = if is_pending s.settled n then makes (adds (Gives_up n) (Voided n)) (O.GivenUp n) else says (O.NotPending n)
turn_of reads s counted moment created (T.Cancel n) = if_cancellable s.settled n (makes (adds (Cancels n) (Cancelled n)) (O.CancelledSale n))
turn_of reads s counted moment created T.Close =
    if allowed s.settled (Closed (next_period s.settled)) then makes (adds Closes (Closed (next_period s.settled))) (O.ClosedPeriod (next_period s.settled)) else says O.PeriodLimit
turn_of reads s counted moment created T.Push = sends_head s moment created (queue_head s.settled)
turn_of reads s counted moment created (T.Batch limit) =
    if nat_lt 0 (length (queue s.settled)) then sends s (Batch_of limit 0) moment created (acked s.settled + 1) (Of_batch (Batch (take limit (queue s.settled)))) else says O.NothingQueued
turn_of reads s counted moment created (T.Ask n) =
    if is_pending s.settled n then sends s (Ask n) moment created n (Of_sale (AuthRequest (amount_of s.settled n) (account_of s.settled n))) else says (O.NotPending n)
turn_of reads s counted moment created (T.AskCancel n) = if_cancellable s.settled n (sends s (Ask_cancel n) moment created n (Of_sale (CancelRequest (amount_of s.settled n))))
turn_of reads s counted moment created T.Diagnose = sends s Diagnose moment created 0 (Of_batch (Diagnostic (acked s.settled)))
turn_of reads s counted moment created (T.Status wanted) =
    sends s (Report_status wanted) moment created 0 (Of_management (Status wanted (version_in_force s.settled) (staged_version (staged_from None s.settled)) (staged_count (staged_from None s.settled))))
turn_of reads s counted moment created (T.Down j) = hears false s j (nth counted j)
turn_of reads s counted moment created (T.Walkout j) = hears true s j (nth counted j)
turn_of reads s counted moment created (T.Hear bytes) = hears_noise s (reads bytes)

-- a step of the host: what it does and adds, what it sends to the terminal at a place, and whether the schedule counts this
pub record HostWork : Type 0 where
  pub action : HostAction
  pub added : List HostEntry
  pub receiver : ℕ
  pub replies : List Message
  pub counts : Bool

-- a line of the host makes one step, or none
pub record HostTurn : Type 0 where
  pub work : Option HostWork
  pub outcome : Outcome

abbrev pub host_says : Outcome → HostTurn
host_says outcome = record { work = None; outcome = outcome }

-- why a message rejects, where it does
abbrev pub reason_of : Body → Option Reason
reason_of (Of_batch (Rejection refused)) = Some refused.reason
reason_of (Of_management (ManagementRejection refused)) = Some refused.reason
reason_of _ = None

abbrev pub answered_as : Option ℕ → Option Body → Outcome
answered_as place None = O.Silent
answered_as place (Some body) = O.Answered place (body_kind body) (reason_of body)

abbrev pub replies_with : List HostEntry → DateParts → Received → Option Body → List Message
replies_with entries created received None = []
replies_with entries created received (Some body) = reply_to entries created received body ∷ []

-- the message that a terminal sent is delivered
abbrev pub answers_it : List HostEntry → (moment : ℕ) → DateParts → (terminal which : ℕ) → (counted : List ℕ) → Option Message → HostTurn
answers_it entries moment created terminal which counted None = host_says (O.NoMessage which)
answers_it entries moment created terminal which counted (Some message) = record {
  work = Some (record {
    action = Answers terminal (which - 1) moment;
    added = (answer_received entries (Read message)).added;
    receiver = terminal;
    replies = replies_with entries created (Read message) (answer_received entries (Read message)).reply;
    counts = true;
  });
  outcome = answered_as (Some (length counted + 1)) (answer_received entries (Read message)).reply;
}

abbrev pub answers_terminal : List HostEntry → (moment : ℕ) → DateParts → (terminal which : ℕ) → (counted : List ℕ) → Option TerminalState → HostTurn
answers_terminal entries moment created terminal which counted None = host_says (O.NoMessage which)
answers_terminal entries moment created terminal which counted (Some s) = answers_it entries moment created terminal which counted (nth s.sent which)

-- bytes of nobody's are delivered; the reply isn't counted
abbrev pub answers_noise : List HostEntry → (moment : ℕ) → DateParts → Received → HostTurn
answers_noise entries moment created received = record {
  work = Some (record {
    action = Answers_foreign received moment;
    added = (answer_received entries received).added;
    receiver = place_named entries received;
    replies = replies_with entries created received (answer_received entries received).reply;
    counts = false;
  });
  outcome = answered_as None (answer_received entries received).reply;
}

-- what a line makes at a host that is on
abbrev pub host_turn_of : (reads : List ℕ → Received) → Scene → (moment : ℕ) → DateParts → HostOrder → HostTurn
host_turn_of reads w moment created (W.Up terminal which) =
    answers_terminal w.host.settled moment created terminal which (counted_at w.counted terminal) (slice_get w.terminals terminal)
host_turn_of reads w moment created (W.Publish rows) =
    if nat_lt (length (published w.host.settled)) 10000
    then record {
      work = Some (record { action = Publishes rows; added = Published (length (published w.host.settled) + 1) rows ∷ []; receiver = 0; replies = []; counts = true });
      outcome = O.PublishedAs (length (published w.host.settled) + 1);
    }
    else host_says O.SetLimit
host_turn_of reads w moment created (W.Listen bytes) = answers_noise w.host.settled moment created (reads bytes)
