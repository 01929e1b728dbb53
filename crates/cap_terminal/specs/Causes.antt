-- When each answer of an adding call comes. The cases exclude one another and leave none out, so each is exact.
use Rattle.std.specs.Prelude.{◌≡◌, ℕ, ◌<◌, ◌≤◌, Bool, true, false, List, count_by, [], ◌∷◌, ⊤, Result, Ok, Err}
use Rattle.std.specs.List.{list_any}
use Rattle.cap_entries.specs.declared.terminal.TermEntry.{TermEntry}
use Rattle.cap_entries.specs.Entry.{is_begin, is_any_begin, is_any_closed, is_completed, is_cancelled, max_of}
use Rattle.cap_terminal.specs.declared.faults.BeginFault.{BeginFault}
use Rattle.cap_terminal.specs.declared.faults.BeginFault.TheVariants as begin
use Rattle.cap_terminal.specs.declared.faults.CancelFault.{CancelFault}
use Rattle.cap_terminal.specs.declared.faults.CancelFault.TheVariants as cancel
use Rattle.cap_terminal.specs.declared.faults.CloseFault.{CloseFault}
use Rattle.cap_terminal.specs.declared.faults.CloseFault.TheVariants as close
use Rattle.cap_terminal.specs.declared.faults.EntryFault.{EntryFault}
use Rattle.cap_terminal.specs.declared.faults.EntryFault.TheVariants as entry
use Rattle.cap_terminal.specs.declared.faults.AskFault.{AskFault}
use Rattle.cap_terminal.specs.declared.faults.AskFault.TheVariants as ask
use Rattle.cap_terminal_answers.specs.declared.handled.Handled.{Handled}
use Rattle.cap_terminal_answers.specs.declared.handled.TermFault.{TermFault}
use Rattle.cap_terminal_answers.specs.declared.handled.TermFault.TheVariants as take
use Rattle.cap_terminal_answers.specs.Takes.{Taken}

-- the end of a sale whose token is live
abbrev pub IsEntryCause : (has_failed : Bool) → EntryFault → Type 0
IsEntryCause has_failed entry.Failed = has_failed ≡ true
IsEntryCause has_failed entry.Disk = has_failed ≡ false

-- a sale: fewer were begun than the set-up allows
abbrev pub MayBegin : (has_failed : Bool) → List TermEntry → Type 0
MayBegin has_failed entries = (has_failed ≡ false) × (count_by is_any_begin entries < max_of entries)

abbrev pub IsBeginCause : (has_failed : Bool) → List TermEntry → BeginFault → Type 0
IsBeginCause has_failed entries begin.Failed = has_failed ≡ true
IsBeginCause has_failed entries (begin.SaleLimit max) = (has_failed ≡ false) × (max ≡ max_of entries) × (max_of entries ≤ count_by is_any_begin entries)
IsBeginCause has_failed entries begin.Memory = MayBegin has_failed entries
IsBeginCause has_failed entries begin.Disk = MayBegin has_failed entries

-- a cancellation: the sale was completed and is not cancelled
abbrev pub MayCancel : (has_failed : Bool) → List TermEntry → ℕ → Type 0
MayCancel has_failed entries n = (has_failed ≡ false) × (is_completed entries n ≡ true) × (is_cancelled entries n ≡ false)

abbrev pub IsCancelCause : (has_failed : Bool) → List TermEntry → ℕ → CancelFault → Type 0
IsCancelCause has_failed entries n cancel.Failed = has_failed ≡ true
IsCancelCause has_failed entries n (cancel.NoSale m) = (has_failed ≡ false) × (m ≡ n) × (list_any (is_begin n) entries ≡ false)
IsCancelCause has_failed entries n (cancel.NotCompleted m) = (has_failed ≡ false) × (m ≡ n) × (list_any (is_begin n) entries ≡ true) × (is_completed entries n ≡ false)
IsCancelCause has_failed entries n (cancel.AlreadyCancelled m) = (has_failed ≡ false) × (m ≡ n) × (is_cancelled entries n ≡ true)
IsCancelCause has_failed entries n cancel.Disk = MayCancel has_failed entries n

-- a question whether it may be cancelled
abbrev pub IsAskCause : List TermEntry → ℕ → AskFault → Type 0
IsAskCause entries n (ask.NoSale m) = (m ≡ n) × (list_any (is_begin n) entries ≡ false)
IsAskCause entries n (ask.NotCompleted m) = (m ≡ n) × (list_any (is_begin n) entries ≡ true) × (is_completed entries n ≡ false)
IsAskCause entries n (ask.AlreadyCancelled m) = (m ≡ n) × (is_cancelled entries n ≡ true)

-- a closing: fewer than 250,000 periods were closed
abbrev pub MayClose : (has_failed : Bool) → List TermEntry → Type 0
MayClose has_failed entries = (has_failed ≡ false) × (count_by is_any_closed entries < 250000)

abbrev pub IsCloseCause : (has_failed : Bool) → List TermEntry → CloseFault → Type 0
IsCloseCause has_failed entries close.Failed = has_failed ≡ true
IsCloseCause has_failed entries close.PeriodLimit = (has_failed ≡ false) × (250000 ≤ count_by is_any_closed entries)
IsCloseCause has_failed entries close.Memory = MayClose has_failed entries
IsCloseCause has_failed entries close.Disk = MayClose has_failed entries

-- what may come once the entry may be added
abbrev pub IsMemoryOrDisk : BeginFault → Type 0
IsMemoryOrDisk begin.Failed = ⊥
IsMemoryOrDisk (begin.SaleLimit max) = ⊥
IsMemoryOrDisk begin.Memory = ⊤
IsMemoryOrDisk begin.Disk = ⊤

abbrev pub IsMemoryOrDiskAtClose : CloseFault → Type 0
IsMemoryOrDiskAtClose close.Failed = ⊥
IsMemoryOrDiskAtClose close.PeriodLimit = ⊥
IsMemoryOrDiskAtClose close.Memory = ⊤
IsMemoryOrDiskAtClose close.Disk = ⊤

-- what arrived adds an entry
abbrev pub is_adding : List TermEntry → Bool
is_adding [] = false
is_adding (entry ∷ entries) = true

abbrev pub MayTake : (has_failed : Bool) → Taken → Type 0
MayTake has_failed taken = (is_adding taken.added ≡ true) × (has_failed ≡ false)

-- what arrived is refused as it says, or its entry was not added
abbrev pub IsTakeCause : (has_failed : Bool) → Taken → TermFault → Type 0
IsTakeCause has_failed taken take.Failed = (is_adding taken.added ≡ true) × (has_failed ≡ true)
IsTakeCause has_failed taken take.Disk = MayTake has_failed taken
IsTakeCause has_failed taken take.Memory = ⊤
IsTakeCause has_failed taken (take.Unread fault) = taken.answer ≡ Err (take.Unread fault)
IsTakeCause has_failed taken take.NotForUs = taken.answer ≡ Err take.NotForUs
IsTakeCause has_failed taken (take.Rejected reason) = taken.answer ≡ Err (take.Rejected reason)
IsTakeCause has_failed taken take.NotAwaited = taken.answer ≡ Err take.NotAwaited
IsTakeCause has_failed taken (take.Stale m acked) = taken.answer ≡ Err (take.Stale m acked)
IsTakeCause has_failed taken (take.Beyond m len) = taken.answer ≡ Err (take.Beyond m len)

-- what may come of an entry that arrived and is allowed
abbrev pub IsTakenCause : (has_failed : Bool) → TermFault → Type 0
IsTakenCause has_failed take.Failed = has_failed ≡ true
IsTakenCause has_failed take.Disk = has_failed ≡ false
IsTakenCause has_failed take.Memory = has_failed ≡ false
IsTakenCause has_failed _ = ⊥

-- what arrived is answered Ok where it adds an entry, and else Ok or by a refusal of its own
abbrev pub IsAnswered : List TermEntry → Result Handled TermFault → Type 0
IsAnswered [] (Ok handled) = ⊤
IsAnswered [] (Err take.Disk) = ⊥
IsAnswered [] (Err take.Failed) = ⊥
IsAnswered [] (Err take.Memory) = ⊥
IsAnswered [] (Err _) = ⊤
IsAnswered (entry ∷ entries) (Ok handled) = ⊤
IsAnswered (entry ∷ entries) (Err fault) = ⊥
