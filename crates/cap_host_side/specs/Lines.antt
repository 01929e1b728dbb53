-- What the parts of a host's line say.
use Rattle.std.specs.Prelude.{ℕ, List, Option, Some, None, Result, Ok, Err}
use Rattle.std.proofs.Common.{Vec, Global}
use Rattle.cap_disk.specs.Disk.{Counts}
use Rattle.cap_msgs.specs.Received.{Received}
use Rattle.cap_journal.specs.declared.journal.Journal.{Ghosts}
use Rattle.cap_entries.specs.declared.host.HostEntry.{HostEntry}
use Rattle.cap_schedule.specs.Reader.{IsReader}
use Rattle.cap_schedule.specs.declared.outcome.Outcome.{Outcome}
use Rattle.cap_schedule.specs.declared.schedule.HostOrder.{HostOrder}
use Rattle.cap_schedule.specs.declared.schedule.HostOrder.TheVariants as W
use Rattle.cap_schedule.specs.declared.schedule.Prefix.{Prefix}
use Rattle.cap_schedule.specs.declared.schedule.Prefix.TheVariants.{CutAfter}
use Rattle.cap_plays.specs.declared.fault.LineFault.{LineFault}
use Rattle.cap_plays.specs.Turns.{Scene}
use Rattle.cap_host.specs.declared.host.Host.{Host}
use Rattle.cap_host_lines.specs.declared.said.HostSaid.{HostSaid}
use Rattle.cap_host_lines.specs.Acts.{IsReady, Acted}
use Rattle.cap_host_side.specs.Sides.{IsGiven}

-- what a line says, and the text of its reply
abbrev pub outcome_said : Result HostSaid LineFault → Result Outcome LineFault
outcome_said (Ok said) = Ok said.outcome
outcome_said (Err fault) = Err fault

abbrev pub reply_said : Result HostSaid LineFault → Option (Vec ℕ Global)
reply_said (Ok said) = said.reply
reply_said (Err fault) = None

-- where the power goes after all calls, no reply is sent
abbrev pub reply_kept : Option Prefix → Option (Vec ℕ Global) → Option (Vec ℕ Global)
reply_kept (Some CutAfter) reply = None
reply_kept _ reply = reply

module _ {J : Type 0} {g : Ghosts J HostEntry} where
  -- any line of a host that is on, given what belongs to it
  abbrev pub ActsOn : (old new : Host J g) → (moment : ℕ) → HostOrder → (sent : List (List ℕ)) → (place : ℕ) → Result HostSaid LineFault → Type 0
  ActsOn old new moment order sent place result =
      (reads : List ℕ → Received) (w : Scene) (armed : Option ℕ) (ended : Outcome) (before : Counts)
      → IsReader reads → IsGiven w order sent place → IsReady old w.host armed before → Acted reads new w moment order armed ended before result

  -- a message with this number, of whichever terminal
  abbrev pub DeliversOf : (old new : Host J g) → (moment which : ℕ) → (sent : List (List ℕ)) → (place : ℕ) → Result HostSaid LineFault → Type 0
  DeliversOf old new moment which sent place result = (terminal : ℕ) → ActsOn old new moment (W.Up terminal which) sent place result
