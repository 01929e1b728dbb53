-- What opening makes of the entries, and when it refuses.
use Rattle.std.specs.Prelude.{◌≡◌, ℕ, ◌+◌, ◌≤◌, true, List, [], ◌∷◌, Option, Some, None, length, vec_len, vec_capacity, ⊤}
use Rattle.cap_base.specs.Causes.{Rose}
use Rattle.cap_disk.specs.Disk.{LeavesOnly}
use Rattle.cap_journal.specs.declared.journal.Journal.{Ghosts}
use Rattle.cap_entries.specs.declared.terminal.TermEntry.{TermEntry}
use Rattle.cap_entries.specs.declared.terminal.TermEntry.TheVariants.{Setup, Begin, Closed}
use Rattle.cap_entries.specs.Settings.{TerminalSettings}
use Rattle.cap_entries.specs.FirstNotAllowed.{first_not_allowed}
use Rattle.cap_terminal.specs.declared.index.Index.{Index}
use Rattle.cap_terminal.specs.Pending.{notes}
use Rattle.cap_terminal.specs.declared.faults.TermOpenCause.{TermOpenCause}
use Rattle.cap_terminal.specs.declared.faults.TermOpenCause.TheVariants.{NotAllowed, Disk, Memory}

-- a crash during the opening leaves no other image than before it
abbrev pub LeavesNoOthers : {J : Type 0} → Ghosts J TermEntry → (old new : J) → Type 0
LeavesNoOthers g old new = LeavesOnly g.moment g.left_since old new (g.may_leave old)

-- entries counted from 0; of an empty journal it is entry 0
abbrev pub IsOpenCause : List TermEntry → (faults_before faults_now : ℕ) → TermOpenCause → Type 0
IsOpenCause entries before now (NotAllowed i) = first_not_allowed entries ≡ Some i
IsOpenCause entries before now Disk = Rose before now
IsOpenCause entries before now Memory = ⊤

-- an entry was not read
abbrev pub IsReadCause : (faults_before faults_now : ℕ) → TermOpenCause → Type 0
IsReadCause before now (NotAllowed i) = ⊥
IsReadCause before now Disk = Rose before now
IsReadCause before now Memory = ⊤

-- the set-up that stands first
abbrev pub setup_in : List TermEntry → Option TerminalSettings
setup_in [] = None
setup_in (Setup settings ∷ entries) = Some settings
setup_in (_ ∷ entries) = None

-- with one entry more
abbrev pub setup_from : Option TerminalSettings → TermEntry → Option TerminalSettings
setup_from so_far (Setup settings) = Some settings
setup_from so_far _ = so_far

-- the index has room for an entry
abbrev pub HasRoomFor : Index → TermEntry → Type 0
HasRoomFor x (Begin n amount account) = (vec_len x.items + x.owed + 2 ≤ vec_capacity x.items) × (vec_len x.sales + 1 ≤ vec_capacity x.sales) × (notes x.pending (length x.sales.items + 1) ≡ true)
HasRoomFor x (Closed p) = (vec_len x.items + x.owed + 1 ≤ vec_capacity x.items) × (vec_len x.closed + 1 ≤ vec_capacity x.closed)
HasRoomFor x _ = ⊤
