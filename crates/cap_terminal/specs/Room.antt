-- The room that a terminal needs for an entry.
use Rattle.std.specs.Prelude.{ℕ, ◌+◌, ◌≤◌, ⊤}
use Rattle.cap_journal.specs.declared.spare.Spare.{Spare}
use Rattle.cap_entries.specs.declared.terminal.TermEntry.{TermEntry}
use Rattle.cap_entries.specs.declared.terminal.TermEntry.TheVariants.{Setup, Begin, Declined, Completed, Voided, Cancelled, Closed, Acked, Part}
use Rattle.cap_terminal.specs.declared.index.Index.{Index}
use Rattle.cap_terminal.specs.Ready.{HasSaleRoom, HasPeriodRoom}

-- the later entries of sales have their room from the beginning; a part may have a small record or a large one
abbrev pub HasRoom : Index → Spare → TermEntry → Type 0
HasRoom x spare (Setup settings) = ⊤
HasRoom x spare (Begin n amount account) = HasSaleRoom x × (x.owed + 3 ≤ spare.small)
HasRoom x spare (Declined n) = ⊤
HasRoom x spare (Completed n code) = ⊤
HasRoom x spare (Voided n) = ⊤
HasRoom x spare (Cancelled n) = ⊤
HasRoom x spare (Closed p) = HasPeriodRoom x × (x.owed + 1 ≤ spare.small)
HasRoom x spare (Acked m) = x.owed + 1 ≤ spare.small
HasRoom x spare (Part part) = (x.owed + 1 ≤ spare.small) × (1 ≤ spare.rows)

-- what is to be there before the journal's small entries are reserved
abbrev pub HasOtherRoom : Index → Spare → TermEntry → Type 0
HasOtherRoom x spare (Begin n amount account) = HasSaleRoom x
HasOtherRoom x spare (Closed p) = HasPeriodRoom x
HasOtherRoom x spare (Part part) = 1 ≤ spare.rows
HasOtherRoom x spare _ = ⊤

-- how many small entries are to be reserved beside those that sales may still need
abbrev pub wanted : TermEntry → ℕ
wanted (Begin n amount account) = 3
wanted (Closed p) = 1
wanted (Acked m) = 1
wanted (Part part) = 1
wanted _ = 0

-- it is the end or the cancellation of a sale, for which there is room since the sale began
abbrev pub HasRoomSinceBegin : TermEntry → Type 0
HasRoomSinceBegin (Declined n) = ⊤
HasRoomSinceBegin (Completed n code) = ⊤
HasRoomSinceBegin (Voided n) = ⊤
HasRoomSinceBegin (Cancelled n) = ⊤
HasRoomSinceBegin _ = ⊥
