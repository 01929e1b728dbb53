-- What a host's tables say of the entries that were read so far.
use Rattle.std.specs.Prelude.{◌≡◌, ℕ, List, [], ◌∷◌, Option, Some, None, length, slice_get}
use Rattle.cap_entries.specs.Settings.{HostSettings}
use Rattle.cap_entries.specs.declared.host.HostEntry.{HostEntry}
use Rattle.cap_entries.specs.declared.host.HostEntry.TheVariants.{Setup}
use Rattle.cap_entries.specs.Log.{published, setup_of}
use Rattle.cap_host_index.specs.Noted.{IsIndex}
use Rattle.cap_host_index.specs.declared.index.LogIndex.{LogIndex}
use Rattle.cap_host.specs.declared.tables.Tables.{Tables}

-- the set-up, where there is one
abbrev pub setup_in : List HostEntry → Option HostSettings
setup_in (Setup settings ∷ entries) = Some settings
setup_in _ = None

pub record TablesTie (entries : List HostEntry) (tables : Tables) : Type 0 where
  pub set_up : tables.setup ≡ setup_in entries
  pub wide : length tables.logs.items ≡ length (setup_of entries).terminals
  pub sets_are : tables.sets.items ≡ published entries
  pub logs_are : (terminal : ℕ) (index : LogIndex) → slice_get tables.logs.items terminal ≡ Some index → IsIndex entries terminal index
