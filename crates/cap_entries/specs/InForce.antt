-- The parameter set in force, and the one whose parts are coming.
use Rattle.std.specs.Prelude.{ℕ, ◌+◌, Bool, false, ◌&&◌, ◌==◌, if◌then◌else◌, List, [], ◌∷◌, ◌++◌, Option, Some, None}
use Rattle.cap_base.specs.declared.parameters.Row.{Row}
use Rattle.cap_base.specs.declared.parameters.ConfigPart.{ConfigPart}
use Rattle.cap_entries.specs.declared.terminal.TermEntry.{TermEntry}
use Rattle.cap_entries.specs.declared.terminal.TermEntry.TheVariants.{Part}

-- the last version of which the last part is there; parts come in order, so then all are there
abbrev pub version_in_force_from : ℕ → List TermEntry → ℕ
version_in_force_from version [] = version
version_in_force_from version (Part part ∷ entries) = version_in_force_from (if part.part == part.parts then part.version else version) entries
version_in_force_from version (_ ∷ entries) = version_in_force_from version entries

-- 0 where there is none
abbrev pub version_in_force : List TermEntry → ℕ
version_in_force entries = version_in_force_from 0 entries

-- the rows of the parts of a version, in order
abbrev pub rows_of_version : ℕ → List TermEntry → List Row
rows_of_version version [] = []
rows_of_version version (Part part ∷ entries) = (if part.version == version then part.rows else []) ++ rows_of_version version entries
rows_of_version version (_ ∷ entries) = rows_of_version version entries

abbrev pub rows_in_force : List TermEntry → List Row
rows_in_force entries = rows_of_version (version_in_force entries) entries

-- the version in force and its rows
abbrev pub in_force : List TermEntry → ℕ × List Row
in_force entries = (version_in_force entries, rows_in_force entries)

-- the last part, if there is one
abbrev pub staged_from : Option ConfigPart → List TermEntry → Option ConfigPart
staged_from staged [] = staged
staged_from staged (Part part ∷ entries) = staged_from (Some part) entries
staged_from staged (_ ∷ entries) = staged_from staged entries

-- the next part of the staged version
abbrev pub continues : Option ConfigPart → ConfigPart → Bool
continues None part = false
continues (Some staged) part = (part.version == staged.version) && (part.parts == staged.parts) && (part.part == staged.part + 1)

abbrev pub staged_version : Option ConfigPart → ℕ
staged_version None = 0
staged_version (Some staged) = staged.version

-- how many parts of the staged version are there
abbrev pub staged_count : Option ConfigPart → ℕ
staged_count None = 0
staged_count (Some staged) = staged.part
