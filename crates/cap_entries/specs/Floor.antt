-- Up to which sum a terminal may complete a sale by itself.
use Rattle.std.specs.Prelude.{ℕ, Bool, if◌then◌else◌, List, [], ◌∷◌, Option, Some, None, bytes_eq, codes}
use Rattle.cap_base.specs.declared.parameters.Row.{Row}
use Rattle.cap_base.specs.Amount.{money_of}
use Rattle.cap_entries.specs.declared.terminal.TermEntry.{TermEntry}
use Rattle.cap_entries.specs.declared.terminal.TermEntry.TheVariants.{Setup}
use Rattle.cap_entries.specs.InForce.{rows_in_force}

abbrev pub setup_floor : List TermEntry → ℕ
setup_floor (Setup settings ∷ entries) = settings.floor
setup_floor _ = 0

abbrev pub is_floor_row : Row → Bool
is_floor_row row = bytes_eq row.key (codes "FLOOR")

-- the value of the first row FLOOR, where there is one and its value is an amount or zero
abbrev pub floor_row : List Row → Option ℕ
floor_row [] = None
floor_row (row ∷ rows) = if is_floor_row row then money_of row.value else floor_row rows

abbrev pub or_else : Option ℕ → ℕ → ℕ
or_else None n = n
or_else (Some m) n = m

-- that of the set in force, else that of the set-up
abbrev pub floor : List TermEntry → ℕ
floor entries = or_else (floor_row (rows_in_force entries)) (setup_floor entries)
