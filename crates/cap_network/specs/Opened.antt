-- What is known of the ends as they are set up, and of the disks that they leave.
use Rattle.std.specs.Prelude.{◌≡◌, ℕ, Bool, true, List, [], length, Some, slice_get}
use Rattle.cap_disk.specs.declared.memory.MemoryDisk.{MemoryDisk}
use Rattle.cap_entries.specs.Settings.{TerminalSettings}
use Rattle.cap_entries.specs.declared.terminal.TermEntry.{TermEntry}
use Rattle.cap_entries.specs.TermRecord.{term_reading}
use Rattle.cap_world.specs.World.{TerminalState, started}
use Rattle.cap_plays.specs.Plays.{Doubt, no_doubt}
use Rattle.cap_power.specs.declared.power.Power.{Power}
use Rattle.cap_replay.specs.Disks.{DiskHas}
use Rattle.cap_terminal_side.specs.declared.side.Side.{Side}
use Rattle.cap_terminal_side.specs.Sides.{SideStands}

module _ {T : Type 0} (term_entries : T → List TermEntry) (term_disk : T → MemoryDisk) (term_failed : T → Bool) (power : Side → Power T) where
  -- a terminal of this set-up alone
  abbrev pub IsStarted : Side → TerminalSettings → Type 0
  IsStarted side settings = SideStands term_entries term_disk term_failed 7 (power side) side.sent side.answers (started settings) [] (no_doubt 0)

  -- one for each set-up, in order
  pub record AreStarted (sides : List Side) (settings : List TerminalSettings) : Type 0 where
    pub same : length sides ≡ length settings
    pub each : (place : ℕ) (side : Side) (t : TerminalSettings) → slice_get sides place ≡ Some side → slice_get settings place ≡ Some t → IsStarted side t

  -- the disk of a terminal: whatever state it stands to that is on, each image has exactly its entries
  abbrev pub IsDiskOf : Side → MemoryDisk → Type 0
  IsDiskOf side disk =
      (most : ℕ) (s : TerminalState) (places : List ℕ) (doubt : Doubt) → SideStands term_entries term_disk term_failed most (power side) side.sent side.answers s places doubt → s.on ≡ true
      → DiskHas term_reading disk s.settled

  -- those of these terminals, in order
  pub record AreDisksOf (sides : List Side) (disks : List MemoryDisk) : Type 0 where
    pub same : length disks ≡ length sides
    pub each : (place : ℕ) (side : Side) (disk : MemoryDisk) → slice_get sides place ≡ Some side → slice_get disks place ≡ Some disk → IsDiskOf side disk
