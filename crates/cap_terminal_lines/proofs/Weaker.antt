-- A line that needs fewer calls.
use Rattle.std.proofs.Common.{ℕ, ◌+◌, ◌^◌, ◌<◌, ◌≤◌, List, Option, Ok, Err, arith}
use Rattle.std.specs.Prelude.{Result}
use Rattle.cap_disk.specs.Disk.{Counts}
use Rattle.cap_journal.specs.declared.journal.Journal.{Ghosts}
use Rattle.cap_msgs.specs.declared.message.Message.{Message}
use Rattle.cap_entries.specs.declared.terminal.TermEntry.{TermEntry}
use Rattle.cap_schedule.specs.declared.outcome.Outcome.{Outcome}
use Rattle.cap_world.specs.World.{TerminalState}
use Rattle.cap_plays.specs.declared.fault.LineFault.{LineFault}
use Rattle.cap_plays.specs.declared.fault.LineFault.TheVariants.{Disk, Memory}
use Rattle.cap_plays.specs.Turns.{Turn}
use Rattle.cap_terminal_lines.specs.declared.said.Said.{Said}
use Rattle.cap_terminal_lines.specs.Acts.{IsReady, LineDone}

module _ {J : Type 0} (g : Ghosts J TermEntry) where
  pub less_ready : (n m : ℕ) (now : J) (heard : List Message) (s : TerminalState) (places : List ℕ) (armed : Option ℕ) (before : Counts) → n ≤ m
      → IsReady g m now heard s places armed before → IsReady g n now heard s places armed before
  less_ready n m now heard s places armed before le ready =
      let few : before.calls + m < 2 ^ 64 = ready.few in
      record { told = ready.told; works = ready.works; counts_are = ready.counts_are; few = omega (arith, few, le); is_armed = ready.is_armed; stands = ready.stands }

  pub more_line : (n m : ℕ) (now : J) (heard : List Message) (s : TerminalState) (places : List ℕ) (armed : Option ℕ) (ended : Outcome) (before : Counts) (turn : Turn) (result : Result Said LineFault) → n ≤ m
      → LineDone g n now heard s places armed ended before turn result → LineDone g m now heard s places armed ended before turn result
  more_line n m now heard s places armed ended before turn (Ok given) le done =
      let few : done.after.calls ≤ before.calls + n = done.goes_on.few in
      record {
        told = done.told;
        works = done.works;
        after = done.after;
        counts_are = done.counts_are;
        goes_on = record { stop = done.goes_on.stop; later = done.goes_on.later; few = omega (arith, few, le) };
        stands = done.stands;
        outcome_is = done.outcome_is;
        sent_is = done.sent_is;
      }
  more_line n m now heard s places armed ended before turn (Err Disk) le broken = broken
  more_line n m now heard s places armed ended before turn (Err Memory) le nothing = tt
