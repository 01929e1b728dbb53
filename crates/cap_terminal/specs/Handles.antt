-- What a terminal does with what arrives, in terms of what it takes it for.
use Rattle.std.specs.Prelude.{◌≡◌, ℕ, List, true, false, Result, Ok, IfOk, IfErr, OnOk}
use Rattle.cap_journal.specs.declared.journal.Journal.{Ghosts}
use Rattle.cap_msgs.specs.declared.message.Message.{Message}
use Rattle.cap_msgs.specs.Received.{Received, Read}
use Rattle.cap_msgs.specs.Reads.{Reads}
use Rattle.cap_entries.specs.declared.terminal.TermEntry.{TermEntry}
use Rattle.cap_terminal_answers.specs.declared.handled.Handled.{Handled}
use Rattle.cap_terminal_answers.specs.declared.handled.TermFault.{TermFault}
use Rattle.cap_terminal_answers.specs.Takes.{Taken, takes}
use Rattle.cap_terminal.specs.Adding.{Adds, ending, take_as}
use Rattle.cap_terminal.specs.Causes.{is_adding, IsTakeCause}

-- the stated entries are added, and at Ok the answer is the stated one; an entry is added only where no call has failed before. A refusal is the
-- stated one, or it says why the entry was not added
pub record Handles {J : Type 0} (g : Ghosts J TermEntry) (old new : J) (result : Result Handled TermFault) (taken : Taken) : Type 0 where
  pub adds : Adds g old new taken.added (ending take_as result)
  pub answer : IfOk result (λ handled. taken.answer ≡ Ok handled)
  pub answers : OnOk result (is_adding taken.added ≡ true → g.has_failed old ≡ false)
  pub refused : IfErr result (IsTakeCause (g.has_failed old) taken)

-- the same for bytes, as what they read as
abbrev pub HandlesBytes : {J : Type 0} → Ghosts J TermEntry → (old new : J) → (bytes : List ℕ) → Result Handled TermFault → Type 0
HandlesBytes g old new bytes result = (received : Received) → Reads bytes received → Handles g old new result (takes (g.entries old) received)

-- and for a message
abbrev pub HandlesMessage : {J : Type 0} → Ghosts J TermEntry → (old new : J) → Message → Result Handled TermFault → Type 0
HandlesMessage g old new message result = Handles g old new result (takes (g.entries old) (Read message))
