-- How the network stands to a scene of a schedule.
use Rattle.std.specs.Prelude.{ℕ, ◌+◌, ◌*◌, Bool, List}
use Rattle.cap_disk.specs.declared.memory.MemoryDisk.{MemoryDisk}
use Rattle.cap_entries.specs.declared.terminal.TermEntry.{TermEntry}
use Rattle.cap_entries.specs.declared.host.HostEntry.{HostEntry}
use Rattle.cap_world.specs.World.{TerminalState, HostState}
use Rattle.cap_plays.specs.Turns.{Scene}
use Rattle.cap_plays.specs.Plays.{Doubt, Doubts}
use Rattle.cap_plays.specs.Corresponds.{NetworkCorresponds}
use Rattle.cap_power.specs.declared.power.Power.{Power}
use Rattle.cap_terminal_side.specs.declared.side.Side.{Side}
use Rattle.cap_terminal_side.specs.Sides.{SideStands}
use Rattle.cap_host_side.specs.Sides.{HostStands}

-- a line makes at most eight calls of a disk, an opening two, and seven set it up
abbrev pub most_calls : ℕ → ℕ
most_calls lines = 8 * lines + 7

-- over what contracts see of a terminal and of a host
module _ {T H : Type 0} (term_entries : T → List TermEntry) (term_disk : T → MemoryDisk) (term_failed : T → Bool)
    (host_entries : H → List HostEntry) (host_disk : H → MemoryDisk) (host_failed : H → Bool) where
  -- one terminal, and the host, after so many lines
  abbrev pub TerminalStands : (lines : ℕ) → (Side → Power T) → Side → TerminalState → List ℕ → Doubt → Type 0
  TerminalStands lines power side s places doubt = SideStands term_entries term_disk term_failed (most_calls lines) (power side) side.sent side.answers s places doubt

  abbrev pub HostStandsAt : (lines : ℕ) → Power H → HostState → Doubt → Type 0
  HostStandsAt lines power s doubt = HostStands host_entries host_disk host_failed (most_calls lines) power s doubt

  -- each end stands to its own of the scene
  abbrev pub EndsStand : (Side → Power T) → (lines : ℕ) → Power H → List Side → Scene → Doubts → Type 0
  EndsStand power lines host sides w doubts = NetworkCorresponds (TerminalStands lines power) (HostStandsAt lines) host sides w doubts
