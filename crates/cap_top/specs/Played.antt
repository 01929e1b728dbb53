-- What `replay` and `make` write.
use Rattle.std.specs.Prelude.{ℕ, List, Option}
use Rattle.std.specs.Io.KnownBytes.{Appends}
use Rattle.cap_base.specs.Streams.{AppendsSome}
use Rattle.cap_disk.specs.declared.memory.MemoryDisk.{MemoryDisk}
use Rattle.cap_replay.specs.Replays.{Replays}
use Rattle.cap_replay.specs.Made.{Makes}

-- the bytes are a schedule of which a run was made, and its whole text was appended; the disks of its ends were dropped
abbrev pub ReplaysWhole : Option (List ℕ) → Option (List ℕ) → List ℕ → Type 0
ReplaysWhole old new bytes = (disks : List MemoryDisk) × Replays old new bytes disks

-- the whole text of a schedule of so many sales was appended
abbrev pub MakesWhole : Option (List ℕ) → Option (List ℕ) → ℕ → Type 0
MakesWhole old new sales = (text : List ℕ) × Makes sales text × Appends old new text

-- a front of it was appended
abbrev pub MakesFront : Option (List ℕ) → Option (List ℕ) → ℕ → Type 0
MakesFront old new sales = (text : List ℕ) × Makes sales text × AppendsSome old new text
