-- What a host keeps beside its journal, and what it says of the entries.
use Rattle.std.specs.Prelude.{◌≡◌, ℕ, List, Some, slice_get}
use Rattle.std.proofs.Props.{props}
use Rattle.cap_base.specs.declared.parameters.Row.{Row}
use Rattle.cap_entries.specs.Settings.{HostSettings}
use Rattle.cap_entries.specs.declared.host.HostEntry.{HostEntry}
use Rattle.cap_entries.specs.Log.{published, setup_of}
use Rattle.cap_entries.specs.HostAllowed.{LegalHost}
use Rattle.cap_host_index.specs.Noted.{IsIndex, index_prop}
use Rattle.cap_host_index.specs.declared.index.LogIndex.{LogIndex}

-- the set-up, the sets and the index of each terminal's log are those of the entries, which are a host's journal
pub record HostTies (entries : List HostEntry) (settings : HostSettings) (sets : List (List Row)) (logs : List LogIndex) : Type 0 where
  pub legal : LegalHost entries
  pub set_up : settings ≡ setup_of entries
  pub sets_are : sets ≡ published entries
  pub logs_are : (terminal : ℕ) (index : LogIndex) → slice_get logs terminal ≡ Some index → IsIndex entries terminal index

pub ties_prop : (entries : List HostEntry) (settings : HostSettings) (sets : List (List Row)) (logs : List LogIndex) → IsProp (HostTies entries settings sets logs)
ties_prop entries settings sets logs = hlevel (index_prop, props)
