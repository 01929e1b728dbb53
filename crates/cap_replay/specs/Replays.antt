-- What the run of a schedule leaves: its text, and the disks of the ends.
use Rattle.std.specs.Prelude.{◌≡◌, ◌⊎◌, ℕ, List, [], Option}
use Rattle.std.specs.Io.KnownBytes.{Appends}
use Rattle.cap_base.specs.Streams.{AppendsSome}
use Rattle.cap_msgs.specs.Received.{Received}
use Rattle.cap_disk.specs.declared.memory.MemoryDisk.{MemoryDisk}
use Rattle.cap_schedule.specs.declared.schedule.Schedule.{Schedule}
use Rattle.cap_schedule.specs.Language.{reading, Reads, Faulty}
use Rattle.cap_plays.specs.Plays.{Played}
use Rattle.cap_schedule.specs.Reader.{IsReader}
use Rattle.cap_plays.specs.Laws.{IsRun}
use Rattle.cap_plays.specs.Report.{report}
use Rattle.cap_replay.specs.Disks.{DisksHold}

-- something says what bytes read as, and this holds of whatever says it
pub record ForReaders (P : (List ℕ → Received) → Type 0) : Type 0 where
  pub some : (reads : List ℕ → Received) × IsReader reads
  pub each : (reads : List ℕ → Received) → IsReader reads → P reads

-- this is the first line of the bytes that isn't in the language
abbrev pub SaysFaulty : List ℕ → ℕ → Type 0
SaysFaulty bytes k = ForReaders (λ reads. reading reads bytes ≡ Faulty k)

-- a run of the schedule was made: this is its text, and these are the disks that it leaves
pub record IsPlayedOver (reads : List ℕ → Received) (s : Schedule) (text : List ℕ) (disks : List MemoryDisk) : Type 0 where
  pub played : Played
  pub run : IsRun reads s played
  pub reports : text ≡ report s played
  pub holds : DisksHold disks played.last

-- The bytes are a schedule, and a run of it was made. Its whole text was appended, and each of these disks has exactly the entries of its end, whatever
-- image of it a crash may leave
pub record Replayed (reads : List ℕ → Received) (old new : Option (List ℕ)) (bytes : List ℕ) (disks : List MemoryDisk) : Type 0 where
  pub schedule : Schedule
  pub played : Played
  pub says : reading reads bytes ≡ Reads schedule
  pub run : IsRun reads schedule played
  pub puts : Appends old new (report schedule played)
  pub holds : DisksHold disks played.last

-- a front of the text was appended
pub record ReplayedFront (reads : List ℕ → Received) (old new : Option (List ℕ)) (bytes : List ℕ) : Type 0 where
  pub schedule : Schedule
  pub played : Played
  pub says : reading reads bytes ≡ Reads schedule
  pub run : IsRun reads schedule played
  pub puts : AppendsSome old new (report schedule played)

abbrev pub Replays : Option (List ℕ) → Option (List ℕ) → List ℕ → List MemoryDisk → Type 0
Replays old new bytes disks = ForReaders (λ reads. Replayed reads old new bytes disks)

abbrev pub ReplaysFront : Option (List ℕ) → Option (List ℕ) → List ℕ → Type 0
ReplaysFront old new bytes = ForReaders (λ reads. ReplayedFront reads old new bytes)

-- nothing was appended, or a front of the text
abbrev pub ReplaysSome : Option (List ℕ) → Option (List ℕ) → List ℕ → Type 0
ReplaysSome old new bytes = Appends old new [] ⊎ ReplaysFront old new bytes
