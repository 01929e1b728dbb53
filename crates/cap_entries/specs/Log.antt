-- What a host's entries say: each terminal's log, and the sets that were published.
use Rattle.std.specs.Prelude.{ℕ, ◌==◌, if◌then◌else◌, List, [], ◌∷◌, ◌++◌, None}
use Rattle.cap_base.specs.declared.parameters.Row.{Row}
use Rattle.cap_base.specs.declared.item.Item.{Item}
use Rattle.cap_leaf.specs.declared.zone.Zone.TheVariants.{Utc}
use Rattle.cap_entries.specs.Settings.{HostSettings}
use Rattle.cap_entries.specs.declared.host.HostEntry.{HostEntry}
use Rattle.cap_entries.specs.declared.host.HostEntry.TheVariants.{Setup, Took, Published}

-- the item of an entry, where the terminal at this place sent it
abbrev pub item_from : ℕ → HostEntry → List Item
item_from terminal (Took place item) = if place == terminal then item ∷ [] else []
item_from terminal (Setup settings) = []
item_from terminal (Published version rows) = []

-- the log of the terminal at this place
abbrev pub log : List HostEntry → ℕ → List Item
log [] terminal = []
log (entry ∷ entries) terminal = item_from terminal entry ++ log entries terminal

-- the rows of the sets published, oldest first
abbrev pub published : List HostEntry → List (List Row)
published [] = []
published (Published version rows ∷ entries) = rows ∷ published entries
published (_ ∷ entries) = published entries

-- for lists of entries that are not legal
abbrev pub no_settings : HostSettings
no_settings =
    record {
      host = [];
      limit = 0;
      blocked = [];
      poll = 0;
      start = record { year = 0; month = 0; day = 0; hour = 0; minute = 0; second = 0; millis = None; zone = Utc };
      terminals = [];
    }

-- how the host was set up
abbrev pub setup_of : List HostEntry → HostSettings
setup_of (Setup settings ∷ entries) = settings
setup_of _ = no_settings
