-- What the disks of a network hold.
use Rattle.std.specs.Prelude.{ℕ, List, [], ◌∷◌}
use Rattle.cap_disk.specs.Disk.{MayLeave}
use Rattle.cap_disk.specs.MemoryDisk.{contents_of}
use Rattle.cap_disk.specs.declared.memory.MemoryDisk.{MemoryDisk}
use Rattle.cap_journal.specs.File.{Reading, Has}
use Rattle.cap_entries.specs.TermRecord.{term_reading}
use Rattle.cap_entries.specs.HostRecord.{host_reading}
use Rattle.cap_plays.specs.Turns.{Scene}
use Rattle.cap_plays.specs.Corresponds.{DisksHave}

-- each image that a crash may leave of the disk has exactly these entries
abbrev pub DiskHas : {Entry : Type 0} → Reading Entry → MemoryDisk → List Entry → Type 0
DiskHas reading disk entries = (image : List ℕ) → MayLeave (contents_of disk) image → Has reading image entries

-- the host's disk has the host's entries, and those behind it have the terminals' in order
abbrev pub DisksHold : List MemoryDisk → Scene → Type 0
DisksHold [] w = ⊥
DisksHold (host ∷ terminals) w = DisksHave (DiskHas term_reading) (DiskHas host_reading) host terminals w
