-- When a parameter set is published, and why not.
use Rattle.std.specs.Prelude.{◌≡◌, ℕ, ◌<◌, ◌≤◌, Bool, true, false, List, length, Option, Some, None, Result, Ok, Err}
use Rattle.cap_entries.specs.declared.host.HostEntry.{HostEntry}
use Rattle.cap_entries.specs.Log.{published}
use Rattle.cap_answering.specs.declared.fault.HostFault.{HostFault}
use Rattle.cap_answering.specs.declared.fault.HostFault.TheVariants as fault
use Rattle.cap_host.specs.declared.publishing.PublishFault.{PublishFault}
use Rattle.cap_host.specs.declared.publishing.PublishFault.TheVariants.{Failed, SetLimit, Memory, Disk}

-- no call answered Disk, and there are fewer than 10,000 sets
pub record MayPublish (has_failed : Bool) (entries : List HostEntry) : Type 0 where
  pub works : has_failed ≡ false
  pub few : length (published entries) < 10000

-- in this order; the cases exclude one another
abbrev pub IsPublishCause : Bool → List HostEntry → PublishFault → Type 0
IsPublishCause has_failed entries Failed = has_failed ≡ true
IsPublishCause has_failed entries SetLimit = (has_failed ≡ false) × (10000 ≤ length (published entries))
IsPublishCause has_failed entries Memory = MayPublish has_failed entries
IsPublishCause has_failed entries Disk = MayPublish has_failed entries

-- the fault of the host's journal that it tells
abbrev pub fault_in : PublishFault → Option HostFault
fault_in Failed = Some fault.Failed
fault_in SetLimit = None
fault_in Memory = Some fault.Memory
fault_in Disk = Some fault.Disk

abbrev pub publish_fault_of : Result ℕ PublishFault → Option HostFault
publish_fault_of (Ok version) = None
publish_fault_of (Err fault) = fault_in fault
