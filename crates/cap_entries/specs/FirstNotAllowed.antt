-- The first entry that is not allowed after those before it, entries counted from 0.
use Rattle.std.specs.Prelude.{ℕ, if◌then◌else◌, List, [], ◌∷◌, ◌++◌, Option, Some, None, length}
use Rattle.cap_entries.specs.declared.terminal.TermEntry.{TermEntry}
use Rattle.cap_entries.specs.declared.host.HostEntry.{HostEntry}
use Rattle.cap_entries.specs.Allowed.{allowed}
use Rattle.cap_entries.specs.HostAllowed.{host_allowed}

abbrev pub first_refused : List TermEntry → List TermEntry → Option ℕ
first_refused before [] = None
first_refused before (entry ∷ entries) = if allowed before entry then first_refused (before ++ entry ∷ []) entries else Some (length before)

-- 0 where there is no entry at all
abbrev pub first_not_allowed : List TermEntry → Option ℕ
first_not_allowed [] = Some 0
first_not_allowed (entry ∷ entries) = first_refused [] (entry ∷ entries)

-- the same of a host's entries
abbrev pub first_host_refused : List HostEntry → List HostEntry → Option ℕ
first_host_refused before [] = None
first_host_refused before (entry ∷ entries) = if host_allowed before entry then first_host_refused (before ++ entry ∷ []) entries else Some (length before)

abbrev pub first_host_not_allowed : List HostEntry → Option ℕ
first_host_not_allowed [] = Some 0
first_host_not_allowed (entry ∷ entries) = first_host_refused [] (entry ∷ entries)
