-- What a terminal makes of what it hears, in the words of the model.
use Rattle.std.specs.Prelude.{◌≡◌, ℕ, Bool, List, [], ◌++◌, Option, Some, None, Result, Ok, Err}
use Rattle.cap_disk.specs.Disk.{Counts}
use Rattle.cap_journal.specs.declared.journal.Journal.{Ghosts}
use Rattle.cap_msgs.specs.declared.message.Message.{Message}
use Rattle.cap_msgs.specs.Received.{Received}
use Rattle.cap_msgs.specs.Reads.{Reads}
use Rattle.cap_entries.specs.declared.terminal.TermEntry.{TermEntry}
use Rattle.cap_sale.specs.declared.response.AuthResponse.{AuthResponse}
use Rattle.cap_terminal_answers.specs.declared.handled.Handled.{Handled}
use Rattle.cap_terminal_answers.specs.declared.handled.Handled.TheVariants.{Authorisation}
use Rattle.cap_terminal_answers.specs.declared.handled.TermFault.{TermFault}
use Rattle.cap_terminal_answers.specs.declared.handled.TermFault.TheVariants as F
use Rattle.cap_terminal_answers.specs.Takes.{takes}
use Rattle.cap_schedule.specs.declared.outcome.Outcome.{Outcome}
use Rattle.cap_world.specs.World.{TerminalState, TerminalAction}
use Rattle.cap_plays.specs.declared.fault.LineFault.{LineFault}
use Rattle.cap_plays.specs.declared.fault.LineFault.TheVariants.{Disk, Memory}
use Rattle.cap_plays.specs.Turns.{makes, Decided, on_response, decides_on, fault_outcome, hears, nth}
use Rattle.cap_terminal_lines.specs.declared.said.Said.{Said}
use Rattle.cap_plays.specs.Texts.{AreTexts}
use Rattle.cap_terminal_lines.specs.Acts.{IsReady, LineDone, AddDone, TurnDone}

-- the decision on a sale, where it is one
abbrev pub decision_in : Handled → Option AuthResponse
decision_in (Authorisation given) = Some given
decision_in _ = None

abbrev pub IsAnswerAlone : Handled → Type 0
IsAnswerAlone handled = decision_in handled ≡ None

abbrev pub says_only : Outcome → Said
says_only outcome = record { outcome = outcome; sent = None }

-- what a line makes of a refusal
abbrev pub refusal_of : TermFault → Result Said LineFault
refusal_of F.Disk = Err Disk
refusal_of F.Failed = Err Disk
refusal_of F.Memory = Err Memory
refusal_of (F.Unread fault) = Ok (says_only (fault_outcome (F.Unread fault)))
refusal_of F.NotForUs = Ok (says_only (fault_outcome F.NotForUs))
refusal_of (F.Rejected reason) = Ok (says_only (fault_outcome (F.Rejected reason)))
refusal_of F.NotAwaited = Ok (says_only (fault_outcome F.NotAwaited))
refusal_of (F.Stale m acked) = Ok (says_only (fault_outcome (F.Stale m acked)))
refusal_of (F.Beyond m len) = Ok (says_only (fault_outcome (F.Beyond m len)))

-- a sale by the host's answer to it
abbrev pub on_answer : (walks_out : Bool) → AuthResponse → Decided
on_answer walks_out answer = on_response walks_out answer.n answer.response answer.code

module _ {J : Type 0} (g : Ghosts J TermEntry) where
  -- a step that adds what is decided on a sale
  abbrev pub SaleDone : (old new : J) → Decided → Result Said LineFault → Type 0
  SaleDone old new decision result = AddDone g old new decision.added decision.outcome result

  -- a step that adds what is decided, whatever the model calls it
  abbrev pub DecidedDone : (old new : J) → (List TermEntry → Decided) → Result Said LineFault → Type 0
  DecidedDone old new decides result =
      (action : TerminalAction) → TurnDone g 4 old new (λ s. makes (record { action = action; added = (decides s.settled).added; sent = [] }) (decides s.settled).outcome) result

  -- a step that takes what arrives, and adds what is decided
  abbrev pub HeardDone : (old new : J) → (walks_out : Bool) → (text : List ℕ) → Result Said LineFault → Type 0
  HeardDone old new walks_out text result =
      (received : Received) → Reads text received → (action : TerminalAction)
      → TurnDone g 4 old new
      (λ s. makes (record { action = action; added = (takes s.settled received).added ++ (decides_on walks_out s.settled received).added; sent = [] }) (decides_on walks_out s.settled received).outcome) result

  -- one of the answers that count is delivered; these are their texts
  abbrev pub DownDone : (old new : J) → (walks_out : Bool) → (texts : List (List ℕ)) → ℕ → Result Said LineFault → Type 0
  DownDone old new walks_out texts j result =
      (heard : List Message) (s : TerminalState) (places : List ℕ) (armed : Option ℕ) (ended : Outcome) (before : Counts)
      → IsReady g 4 old heard s places armed before → AreTexts texts heard
      → LineDone g 4 new heard s places armed ended before (hears walks_out s j (nth places j)) result
