-- The laws over every run on what the ends make of each other's messages.
use Rattle.std.specs.Prelude.{◌≡◌, ℕ, ◌+◌, ◌-◌, Bool, true, List, length, Option, Some, Result, Ok, Err, slice_get}
use Rattle.cap_base.specs.declared.item.Totals.{Totals}
use Rattle.cap_base.specs.declared.item.Item.{Item}
use Rattle.cap_base.specs.declared.item.Item.TheVariants.{Sale, Void, Cancel, Close}
use Rattle.cap_base.specs.declared.codes.Response.TheVariants.{Appr}
use Rattle.cap_sale_msgs.specs.declared.body.SaleBody.TheVariants.{CompletionAnswer, CancelAdviceAnswer}
use Rattle.cap_batch_msgs.specs.declared.body.BatchBody.TheVariants.{ReconcileAnswer, BatchAnswer}
use Rattle.cap_msgs.specs.declared.message.Body.{Body}
use Rattle.cap_msgs.specs.declared.message.Body.TheVariants.{Sale as Of_sale, Batch as Of_batch}
use Rattle.cap_msgs.specs.declared.message.Message.{Message}
use Rattle.cap_msgs.specs.Received.{Read}
use Rattle.cap_msgs.specs.Report.{Report, Advice, Many, report_of}
use Rattle.cap_entries.specs.Settings.{TerminalSettings, HostSettings}
use Rattle.cap_entries.specs.declared.terminal.TermEntry.{TermEntry}
use Rattle.cap_entries.specs.declared.host.HostEntry.{HostEntry}
use Rattle.cap_host_answers.specs.Received.{answer_received}
use Rattle.cap_terminal_answers.specs.declared.handled.Handled.{Handled}
use Rattle.cap_terminal_answers.specs.declared.handled.Handled.TheVariants.{Reconciled}
use Rattle.cap_terminal_answers.specs.declared.handled.TermFault.{TermFault}
use Rattle.cap_terminal_answers.specs.declared.handled.TermFault.TheVariants.{Beyond}
use Rattle.cap_terminal_answers.specs.Takes.{takes}
use Rattle.cap_world.specs.World.{World, TerminalState, Happening, first, Run, May}
use Rattle.cap_entries.specs.SetUps.{SetUpsMatch}

-- the approval of an item; of a closing with the terminal's own totals
abbrev pub approval_of : Item → Body
approval_of (Sale n amount account code) = Of_sale (CompletionAnswer Appr)
approval_of (Void n) = Of_sale (CompletionAnswer Appr)
approval_of (Cancel n amount) = Of_sale (CancelAdviceAnswer Appr)
approval_of (Close p totals) = Of_batch (ReconcileAnswer Appr p totals)

-- an item is approved, and of a batch all items stand
abbrev pub Accepts : ℕ → Report → Option Body → Type 0
Accepts number (Advice item) reply = reply ≡ Some (approval_of item)
Accepts number (Many items) reply = reply ≡ Some (Of_batch (BatchAnswer Appr ((number + length items) - 1)))
Accepts number _ reply = Unit {0}

-- each item and batch that a terminal sent is accepted, whenever it arrives
abbrev pub EveryAdviceIsAccepted : Type 0
EveryAdviceIsAccepted =
    (host : HostSettings) (terminals : List TerminalSettings) (happenings : List Happening) (w : World)
    → SetUpsMatch host terminals → Run (first host terminals) happenings w
    → (place : ℕ) (s : TerminalState) → slice_get w.terminals place ≡ Some s
    → (k : ℕ) (message : Message) → slice_get s.sent k ≡ Some message
    → (others : List HostEntry) → May w.host.settled w.host.tried others
    → Accepts message.header.exchange (report_of message.body) (answer_received others (Read message)).reply

-- it acknowledges no item that isn't there, and totals agree
pub record Expected (answer : Result Handled TermFault) : Type 0 where
  pub within : (m len : ℕ) → answer ≡ Err (Beyond m len) → ⊥
  pub agree : (m : ℕ) (totals : Totals) (agree : Bool) → answer ≡ Ok (Reconciled m totals agree) → agree ≡ true

-- so is each message that the host sent, whenever it arrives
abbrev pub EveryAnswerIsExpected : Type 0
EveryAnswerIsExpected =
    (host : HostSettings) (terminals : List TerminalSettings) (happenings : List Happening) (w : World)
    → SetUpsMatch host terminals → Run (first host terminals) happenings w
    → (place : ℕ) (s : TerminalState) → slice_get w.terminals place ≡ Some s
    → (k : ℕ) (message : Message) → slice_get s.answers k ≡ Some message
    → (entries : List TermEntry) → May s.settled s.tried entries
    → Expected (takes entries (Read message)).answer
