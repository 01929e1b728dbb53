-- What each line makes of a terminal that is on.
use Rattle.std.specs.Prelude.{ℕ, ◌+◌, nat_lt, count_by, if◌then◌else◌, List, length, take, None}
use Rattle.cap_base.specs.declared.codes.DataSet.{DataSet}
use Rattle.cap_leaf.specs.Date.{DateParts}
use Rattle.cap_sale_msgs.specs.declared.body.SaleBody.TheVariants.{AuthRequest, CancelRequest}
use Rattle.cap_batch_msgs.specs.declared.body.BatchBody.TheVariants.{Batch, Diagnostic}
use Rattle.cap_mgmt_msgs.specs.declared.body.MgmtBody.TheVariants.{Status}
use Rattle.cap_msgs.specs.declared.message.Body.TheVariants.{Sale as Of_sale, Batch as Of_batch, Management as Of_management}
use Rattle.cap_entries.specs.declared.terminal.TermEntry.TheVariants.{Cancelled, Closed, Voided}
use Rattle.cap_entries.specs.Entry.{is_any_begin, is_pending, amount_of, account_of, max_of}
use Rattle.cap_entries.specs.Acked.{acked}
use Rattle.cap_entries.specs.Allowed.{allowed}
use Rattle.cap_entries.specs.InForce.{version_in_force, staged_from, staged_version, staged_count}
use Rattle.cap_plain.specs.Queue.{queue}
use Rattle.cap_terminal_answers.specs.Sends.{Batch_of, Ask, Ask_cancel, Diagnose, Report_status}
use Rattle.cap_schedule.specs.declared.outcome.Outcome.TheVariants as O
use Rattle.cap_world.specs.World.{TerminalState, Gives_up, Cancels, Closes}
use Rattle.cap_plays.specs.Turns.{Turn, makes, says, adds, behind, begins, worked, sends, offline_turn, next_sale, next_period, if_cancellable}

-- a sale is begun, unless as many were as the set-up allows
abbrev pub begin_turn : TerminalState → ℕ → List ℕ → Turn
begin_turn s amount account =
    if nat_lt (count_by is_any_begin s.settled) (max_of s.settled) then makes (begins s.settled amount account) (O.Begun (next_sale s.settled)) else says (O.Limit (max_of s.settled))

-- and then completed offline, where it is within the floor
abbrev pub sale_turn : TerminalState → ℕ → List ℕ → Turn
sale_turn s amount account =
    if nat_lt (count_by is_any_begin s.settled) (max_of s.settled)
    then behind (begins s.settled amount account) (offline_turn (worked s (begins s.settled amount account)) (next_sale s.settled))
    else says (O.Limit (max_of s.settled))

abbrev pub void_turn : TerminalState → ℕ → Turn
void_turn s n = if is_pending s.settled n then makes (adds (Gives_up n) (Voided n)) (O.GivenUp n) else says (O.NotPending n)

abbrev pub cancel_turn : TerminalState → ℕ → Turn
cancel_turn s n = if_cancellable s.settled n (makes (adds (Cancels n) (Cancelled n)) (O.CancelledSale n))

abbrev pub close_turn : TerminalState → Turn
close_turn s =
    if allowed s.settled (Closed (next_period s.settled)) then makes (adds Closes (Closed (next_period s.settled))) (O.ClosedPeriod (next_period s.settled)) else says O.PeriodLimit

-- a message is sent, where there is something to send
abbrev pub batch_turn : TerminalState → (limit moment : ℕ) → DateParts → Turn
batch_turn s limit moment created =
    if nat_lt 0 (length (queue s.settled)) then sends s (Batch_of limit 0) moment created (acked s.settled + 1) (Of_batch (Batch (take limit (queue s.settled)))) else says O.NothingQueued

abbrev pub ask_turn : TerminalState → (n moment : ℕ) → DateParts → Turn
ask_turn s n moment created =
    if is_pending s.settled n then sends s (Ask n) moment created n (Of_sale (AuthRequest (amount_of s.settled n) (account_of s.settled n))) else says (O.NotPending n)

abbrev pub ask_cancel_turn : TerminalState → (n moment : ℕ) → DateParts → Turn
ask_cancel_turn s n moment created = if_cancellable s.settled n (sends s (Ask_cancel n) moment created n (Of_sale (CancelRequest (amount_of s.settled n))))

abbrev pub diagnose_turn : TerminalState → (moment : ℕ) → DateParts → Turn
diagnose_turn s moment created = sends s Diagnose moment created 0 (Of_batch (Diagnostic (acked s.settled)))

abbrev pub status_turn : TerminalState → DataSet → (moment : ℕ) → DateParts → Turn
status_turn s wanted moment created =
    sends s (Report_status wanted) moment created 0 (Of_management (Status wanted (version_in_force s.settled) (staged_version (staged_from None s.settled)) (staged_count (staged_from None s.settled))))
