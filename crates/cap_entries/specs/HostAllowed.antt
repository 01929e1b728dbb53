-- Which entry may stand next in a host's journal.
use Rattle.std.specs.Prelude.{◌≡◌, ◌+◌, Bool, true, false, ◌&&◌, nat_le, nat_lt, ◌==◌, List, [], ◌∷◌, ◌++◌, length}
use Rattle.cap_base.specs.Fits.{fits}
use Rattle.cap_entries.specs.Settings.{is_host_settings}
use Rattle.cap_entries.specs.declared.host.HostEntry.{HostEntry}
use Rattle.cap_entries.specs.declared.host.HostEntry.TheVariants.{Setup, Took, Published}
use Rattle.cap_entries.specs.Log.{log, published, setup_of}

-- a Setup in range, as each value of the type is; laws over plain lists have it from here
abbrev pub is_host_setup : HostEntry → Bool
is_host_setup (Setup settings) = is_host_settings settings
is_host_setup _ = false

-- what is allowed after the set-up
abbrev pub host_allowed_after : List HostEntry → HostEntry → Bool
host_allowed_after before (Setup settings) = false
host_allowed_after before (Took place item) = nat_lt place (length (setup_of before).terminals) && fits (log before place) item
host_allowed_after before (Published version rows) = (version == length (published before) + 1) && nat_le version 10000

-- the set-up stands first, and only there
abbrev pub host_allowed : List HostEntry → HostEntry → Bool
host_allowed [] entry = is_host_setup entry
host_allowed (head ∷ rest) entry = host_allowed_after (head ∷ rest) entry

-- each entry is allowed after those before it
abbrev pub all_host_allowed : List HostEntry → List HostEntry → Bool
all_host_allowed before [] = true
all_host_allowed before (entry ∷ entries) = host_allowed before entry && all_host_allowed (before ++ entry ∷ []) entries

-- the entries of a host's journal: there is one, and each is allowed after those before it
abbrev pub is_legal_host : List HostEntry → Bool
is_legal_host [] = false
is_legal_host (entry ∷ entries) = all_host_allowed [] (entry ∷ entries)

abbrev pub LegalHost : List HostEntry → Type 0
LegalHost entries = is_legal_host entries ≡ true
