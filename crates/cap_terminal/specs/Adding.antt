-- What a call of a terminal that adds says of its journal, in the words of a ledger's calls.
use Rattle.std.specs.Prelude.{List, Result, Ok, Err}
use Rattle.cap_journal.specs.declared.journal.Journal.{Ghosts}
use Rattle.cap_entries.specs.declared.terminal.TermEntry.{TermEntry}
use Rattle.cap_entries.specs.TermRecord.{term_reading}
use Rattle.cap_answering.specs.declared.fault.HostFault.{HostFault}
use Rattle.cap_answering.specs.declared.fault.HostFault.TheVariants.{Disk, Failed, Memory}
use Rattle.cap_ledger.specs.Adding as adding
use Rattle.cap_terminal_answers.specs.declared.handled.TermFault.{TermFault}
use Rattle.cap_terminal_answers.specs.declared.handled.TermFault.TheVariants as take
use Rattle.cap_terminal.specs.declared.add.RoomFault.{RoomFault}
use Rattle.cap_terminal.specs.declared.add.RoomFault.TheVariants as room
use Rattle.cap_terminal.specs.declared.faults.EntryFault.{EntryFault}
use Rattle.cap_terminal.specs.declared.faults.EntryFault.TheVariants as entry
use Rattle.cap_terminal.specs.declared.faults.BeginFault.{BeginFault}
use Rattle.cap_terminal.specs.declared.faults.BeginFault.TheVariants as begin
use Rattle.cap_terminal.specs.declared.faults.CancelFault.{CancelFault}
use Rattle.cap_terminal.specs.declared.faults.CancelFault.TheVariants as cancel
use Rattle.cap_terminal.specs.declared.faults.CloseFault.{CloseFault}
use Rattle.cap_terminal.specs.declared.faults.CloseFault.TheVariants as close

-- a terminal is seen as its journal
module _ {J : Type 0} (g : Ghosts J TermEntry) where
  -- what every call says, whatever the disk is
  abbrev pub Stays : (old new : J) → {T : Type 0} → Result T HostFault → Type 0
  Stays old new result = adding.Stays term_reading g (λ journal. journal) g.has_failed old new result

  -- a call that adds nothing
  abbrev pub OnlyReads : (old new : J) → {T : Type 0} → Result T HostFault → Type 0
  OnlyReads old new result = adding.OnlyReads term_reading g (λ journal. journal) g.has_failed old new result

  -- a call adds these entries as one group, or nothing where there are none
  abbrev pub Adds : (old new : J) → List TermEntry → {T : Type 0} → Result T HostFault → Type 0
  Adds old new added result = adding.Adds term_reading g (λ journal. journal) g.has_failed old new added result

-- how a call ended, as a ledger's calls end
abbrev pub ending : {T F : Type 0} → (F → HostFault) → Result T F → Result (Unit {0}) HostFault
ending as_fault (Ok value) = Ok tt
ending as_fault (Err fault) = Err (as_fault fault)

-- the fault of each call; a refusal does as little as want of memory
abbrev pub room_as : RoomFault → HostFault
room_as room.Memory = Memory
room_as room.Disk = Disk

abbrev pub entry_as : EntryFault → HostFault
entry_as entry.Disk = Disk
entry_as entry.Failed = Failed

abbrev pub begin_as : BeginFault → HostFault
begin_as begin.Failed = Failed
begin_as (begin.SaleLimit max) = Memory
begin_as begin.Memory = Memory
begin_as begin.Disk = Disk

abbrev pub cancel_as : CancelFault → HostFault
cancel_as cancel.Failed = Failed
cancel_as (cancel.NoSale n) = Memory
cancel_as (cancel.NotCompleted n) = Memory
cancel_as (cancel.AlreadyCancelled n) = Memory
cancel_as cancel.Disk = Disk

abbrev pub close_as : CloseFault → HostFault
close_as close.Failed = Failed
close_as close.PeriodLimit = Memory
close_as close.Memory = Memory
close_as close.Disk = Disk

abbrev pub take_as : TermFault → HostFault
take_as take.Disk = Disk
take_as take.Failed = Failed
take_as take.Memory = Memory
take_as (take.Unread fault) = Memory
take_as take.NotForUs = Memory
take_as (take.Rejected reason) = Memory
take_as take.NotAwaited = Memory
take_as (take.Stale m acked) = Memory
take_as (take.Beyond m len) = Memory
