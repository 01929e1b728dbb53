-- What stands after so many lines stands after one more.
use Rattle.std.specs.Prelude.{◌≡◌, ℕ, ◌+◌, ◌≤◌, Bool, List}
use Rattle.std.proofs.Common.{arith}
use Rattle.cap_disk.specs.declared.memory.MemoryDisk.{MemoryDisk}
use Rattle.cap_entries.specs.declared.terminal.TermEntry.{TermEntry}
use Rattle.cap_entries.specs.declared.host.HostEntry.{HostEntry}
use Rattle.cap_world.specs.World.{TerminalState, HostState}
use Rattle.cap_plays.specs.Turns.{Scene}
use Rattle.cap_plays.specs.Plays.{Doubt, Doubts}
use Rattle.cap_power.specs.Standing.{IsReady}
use Rattle.cap_power.specs.declared.power.Power.{Power}
use Rattle.cap_power.specs.declared.power.Power.TheVariants.{On, Off, Lent}
use Rattle.cap_terminal_side.specs.declared.side.Side.{Side}
use Rattle.cap_terminal_side.specs.Sides.{SideStands}
use Rattle.cap_host_side.specs.Sides.{HostStands}
use Rattle.cap_network.specs.Ends.{most_calls, TerminalStands, HostStandsAt, EndsStand}

-- a line makes at most eight calls of an end's disk
pub eight_more : (lines : ℕ) → most_calls lines + 8 ≡ most_calls (lines + 1)
eight_more lines = omega arith

pub fewer_calls : (lines : ℕ) → most_calls lines ≤ most_calls (lines + 1)
fewer_calls lines = omega arith

pub ready_more : {T : Type 0} (failed : T → Bool) (disk : T → MemoryDisk) (most more : ℕ) (power : Power T) → most ≤ more → IsReady failed disk most power → IsReady failed disk more power
ready_more failed disk most more (On end) le (works, counting) = (works, record { calls = counting.calls; few = omega (arith, counting.few, le); is = counting.is })
ready_more failed disk most more (Off left) le ready = tt
ready_more failed disk most more Lent le ready = tt

module _ {T H : Type 0} (term_entries : T → List TermEntry) (term_disk : T → MemoryDisk) (term_failed : T → Bool)
    (host_entries : H → List HostEntry) (host_disk : H → MemoryDisk) (host_failed : H → Bool) (power : Side → Power T) where
  abbrev OfTerminal : ℕ → Side → TerminalState → List ℕ → Doubt → Type 0
  OfTerminal lines side s places doubt = TerminalStands term_entries term_disk term_failed host_entries host_disk host_failed lines power side s places doubt

  abbrev OfHost : ℕ → Power H → HostState → Doubt → Type 0
  OfHost lines host s doubt = HostStandsAt term_entries term_disk term_failed host_entries host_disk host_failed lines host s doubt

  abbrev Stand : ℕ → Power H → List Side → Scene → Doubts → Type 0
  Stand lines host sides w doubts = EndsStand term_entries term_disk term_failed host_entries host_disk host_failed power lines host sides w doubts

  pub side_more : (most more : ℕ) (side : Side) (s : TerminalState) (places : List ℕ) (doubt : Doubt) → most ≤ more
      → SideStands term_entries term_disk term_failed most (power side) side.sent side.answers s places doubt → SideStands term_entries term_disk term_failed more (power side) side.sent side.answers s places doubt
  side_more most more side s places doubt le stands = record {
    stands = stands.stands;
    ready = ready_more term_failed term_disk most more (power side) le stands.ready;
    sent_are = stands.sent_are;
    heard = stands.heard;
    counted = stands.counted;
    answers_are = stands.answers_are;
  }

  pub host_more : (most more : ℕ) (host : Power H) (s : HostState) (doubt : Doubt) → most ≤ more
      → HostStands host_entries host_disk host_failed most host s doubt → HostStands host_entries host_disk host_failed more host s doubt
  host_more most more host s doubt le stands = record { stands = stands.stands; ready = ready_more host_failed host_disk most more host le stands.ready }

  -- one line more
  pub raised : (lines : ℕ) (host : Power H) (sides : List Side) (w : Scene) (doubts : Doubts) → Stand lines host sides w doubts → Stand (lines + 1) host sides w doubts
  raised lines host sides w doubts stands = record {
    host_is = host_more (most_calls lines) (most_calls (lines + 1)) host w.host doubts.host (fewer_calls lines) stands.host_is;
    same = stands.same;
    same_counted = stands.same_counted;
    same_doubts = stands.same_doubts;
    each = λ place side s at there. side_more (most_calls lines) (most_calls (lines + 1)) side s _ _ (fewer_calls lines) (stands.each place side s at there);
  }
