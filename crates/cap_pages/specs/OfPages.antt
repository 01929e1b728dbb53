-- What a journal shows that keeps places.
use Rattle.std.specs.Prelude.{ℕ, Bool, List, length, take, Option}
use Rattle.std.specs.declared.clone.Clone.{Ghosts as CloneGhosts}
use Rattle.cap_disk.specs.Disk.{Counts}
use Rattle.cap_disk.specs.declared.disk.Disk.{Ghosts as DiskGhosts}
use Rattle.cap_journal.specs.declared.record.Record.{Ghosts as RecordGhosts}
use Rattle.cap_journal.specs.declared.spare.Spare.{Spare}
use Rattle.cap_pages.specs.Paged.{entries_told}
use Rattle.cap_pages.specs.declared.paged_journal.PagedJournal.{PagedJournal}

module _ {E D : Type 0} {r : RecordGhosts E} {c : CloneGhosts E} {d : DiskGhosts D} where
  -- its disk
  abbrev pub disk_of : PagedJournal E D r c d → D
  disk_of journal = journal.disk

  -- its entries
  abbrev pub entries_of : PagedJournal E D r c d → List E
  entries_of journal = entries_told (d.tells journal.disk) r.reading (take journal.end (d.contents journal.disk).shown) journal.marks.items

  -- how many they are, over any disk
  abbrev pub len_of : PagedJournal E D r c d → ℕ
  len_of journal = length journal.marks.items

  -- the room for further ones
  abbrev pub spare_of : PagedJournal E D r c d → Spare
  spare_of journal = journal.spare

  -- how many were read back
  abbrev pub fetched_of : PagedJournal E D r c d → ℕ
  fetched_of journal = journal.fetched

  -- a call of its disk failed since it was opened
  abbrev pub failed_of : PagedJournal E D r c d → Bool
  failed_of journal = journal.failed

  -- what its disk tells: its faults, its calls, what a read gives, and whether it tells that
  abbrev pub faults_of : PagedJournal E D r c d → ℕ
  faults_of journal = d.faults journal.disk

  abbrev pub counts_of : PagedJournal E D r c d → Option Counts
  counts_of journal = d.counts journal.disk

  abbrev pub shown_of : PagedJournal E D r c d → List ℕ
  shown_of journal = (d.contents journal.disk).shown

  abbrev pub tells_of : PagedJournal E D r c d → Bool
  tells_of journal = d.tells journal.disk
