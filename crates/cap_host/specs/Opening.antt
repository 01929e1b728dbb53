-- What opening makes of the entries, and when it refuses.
use Rattle.std.specs.Prelude.{◌≡◌, ℕ, true, List, [], Option, Some, None, Result, Ok, Err, length, ⊤}
use Rattle.cap_base.specs.Causes.{Rose}
use Rattle.cap_entries.specs.declared.host.HostEntry.{HostEntry}
use Rattle.cap_entries.specs.HostAllowed.{all_host_allowed}
use Rattle.cap_entries.specs.FirstNotAllowed.{first_host_not_allowed}
use Rattle.cap_answering.specs.declared.fault.HostFault.{HostFault}
use Rattle.cap_answering.specs.declared.fault.HostFault.TheVariants as fault
use Rattle.cap_host.specs.Tables.{TablesTie}
use Rattle.cap_host.specs.Ties.{HostTies}
use Rattle.cap_host.specs.declared.opening.HostOpenCause.{HostOpenCause}
use Rattle.cap_host.specs.declared.opening.HostOpenCause.TheVariants.{NotAllowed, Disk, Memory}
use Rattle.cap_host.specs.declared.opening.Opened.{Opened}
use Rattle.cap_host.specs.declared.opening.Opened.TheVariants.{Legal, Stops}
use Rattle.cap_host.specs.declared.opening.Start.{Start}

-- entries counted from 0; of an empty journal it is entry 0
abbrev pub IsHostOpenCause : List HostEntry → (faults_before faults_now : ℕ) → HostOpenCause → Type 0
IsHostOpenCause entries before now (NotAllowed i) = first_host_not_allowed entries ≡ Some i
IsHostOpenCause entries before now Disk = Rose before now
IsHostOpenCause entries before now Memory = ⊤

-- the fault of the journal that it tells
abbrev pub fault_in : HostOpenCause → Option HostFault
fault_in (NotAllowed i) = None
fault_in Disk = Some fault.Disk
fault_in Memory = Some fault.Memory

abbrev pub open_fault_of : {T : Type 0} → Result T HostOpenCause → Option HostFault
open_fault_of (Ok value) = None
open_fault_of (Err cause) = fault_in cause

-- the entries are allowed one after another and say this; or the first that is not allowed
abbrev pub IsOpened : List HostEntry → Opened → Type 0
IsOpened entries (Legal tables) = (all_host_allowed [] entries ≡ true) × TablesTie entries tables
IsOpened entries (Stops i) = first_host_not_allowed entries ≡ Some i

-- what a host keeps of these entries
pub record IsStart (entries : List HostEntry) (start : Start) : Type 0 where
  pub named : start.names.keys ≡ start.setup.terminals
  pub wide : length start.logs.items ≡ length start.setup.terminals
  pub ties : HostTies entries start.setup start.sets.items start.logs.items

abbrev pub IsFound : List HostEntry → Option Start → Type 0
IsFound entries (Some start) = IsStart entries start
IsFound entries None = first_host_not_allowed entries ≡ Some 0

-- a refusal, where the first entry that is not allowed has this number
abbrev pub IsRefusal : List HostEntry → HostOpenCause → Type 0
IsRefusal entries (NotAllowed i) = first_host_not_allowed entries ≡ Some i
IsRefusal entries _ = ⊤
