-- What a host shows, and what a call says of it.
use Rattle.std.specs.Prelude.{◌≡◌, ℕ, ◌+◌, ◌≤◌, Bool, List, Option, Some, None, Result, Ok, Err, IfOk, length}
use Rattle.cap_journal.specs.declared.journal.Journal.{Ghosts}
use Rattle.cap_journal.specs.declared.spare.Spare.{Spare}
use Rattle.cap_msgs.specs.declared.message.Body.{Body}
use Rattle.cap_msgs.specs.Report.{Report, Many, report_of}
use Rattle.cap_entries.specs.Settings.{HostSettings}
use Rattle.cap_entries.specs.declared.host.HostEntry.{HostEntry}
use Rattle.cap_answering.specs.declared.fault.HostFault.{HostFault}
use Rattle.cap_ledger.specs.Ledger as ledger
use Rattle.cap_host.specs.declared.host.Host.{Host}

-- the fault that a call answered, where it answered one
abbrev pub fault_of : {T : Type 0} → Result T HostFault → Option HostFault
fault_of (Ok value) = None
fault_of (Err fault) = Some fault

-- how a call ended
abbrev pub ending : Option HostFault → Result (Unit {0}) HostFault
ending None = Ok tt
ending (Some fault) = Err fault

module _ {J : Type 0} {g : Ghosts J HostEntry} where
  abbrev pub journal_of : Host J g → J
  journal_of host = ledger.journal_in host.ledger

  -- its journal's entries
  abbrev pub entries_of : Host J g → List HostEntry
  entries_of host = ledger.entries_in host.ledger

  -- how it was set up
  abbrev pub settings_of : Host J g → HostSettings
  settings_of host = host.setup

  -- a call answered Disk since it was opened
  abbrev pub has_failed : Host J g → Bool
  has_failed host = ledger.has_failed host.ledger

  -- contracts see the images of its journal
  abbrev pub tells : Host J g → Bool
  tells host = ledger.tells host.ledger

  -- every image that a crash may leave now has the entries at its head
  abbrev pub StandsInAll : Host J g → Type 0
  StandsInAll host = ledger.StandsInAll host.ledger

  -- each has the entries, and no more
  abbrev pub IsInAll : Host J g → Type 0
  IsInAll host = ledger.IsInAll host.ledger

  -- the room of its journal
  abbrev pub spare_of : Host J g → Spare
  spare_of host = ledger.spare_in host.ledger

  -- how many entries were read back
  abbrev pub fetched_of : Host J g → ℕ
  fetched_of host = ledger.fetched_in host.ledger

  -- a call that adds nothing, and ends with this fault or none
  abbrev pub Reads : Host J g → Host J g → Option HostFault → Type 0
  Reads old new fault = ledger.OnlyReads old.ledger new.ledger (ending fault)

  -- a call that adds these entries as one group, or nothing where there are none
  abbrev pub Adds : Host J g → Host J g → List HostEntry → Option HostFault → Type 0
  Adds old new added fault = ledger.Adds old.ledger new.ledger added (ending fault)

-- how many entries an answer to a message reads back at most: one for each item of a batch, else one
abbrev pub readings_of : Report → ℕ
readings_of (Many items) = length items
readings_of _ = 1

abbrev pub readings : Body → ℕ
readings body = readings_of (report_of body)
