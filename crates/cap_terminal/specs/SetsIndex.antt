-- How what is kept of parameter sets follows a part.
use Rattle.std.specs.Prelude.{ℕ, ◌==◌, if◌then◌else◌, List, Option, Some, None}
use Rattle.std.specs.List.{list_any}
use Rattle.cap_base.specs.declared.parameters.Row.{Row}
use Rattle.cap_entries.specs.Floor.{is_floor_row, floor_row, or_else}
use Rattle.cap_terminal_answers.specs.declared.part.PartNumbers.{PartNumbers}
use Rattle.cap_terminal.specs.declared.sets.Sets.{Sets}

-- the money of the first row FLOOR, where there is such a row
abbrev pub floor_in : List Row → Option (Option ℕ)
floor_in rows = if list_any is_floor_row rows then Some (floor_row rows) else None

-- the first that is there
abbrev pub first_floor : Option (Option ℕ) → Option (Option ℕ) → Option (Option ℕ)
first_floor None later = later
first_floor (Some floor) later = Some floor

-- the floor of a set's parts up to this one
abbrev pub floor_joined : Sets → PartNumbers → Option (Option ℕ) → Option (Option ℕ)
floor_joined sets numbers floor = if numbers.part == 1 then floor else first_floor sets.staged_floor floor

abbrev pub sets_after : Sets → PartNumbers → Option (Option ℕ) → Sets
sets_after sets numbers floor =
    record {
      staged = Some numbers;
      staged_floor = floor_joined sets numbers floor;
      in_force = if numbers.part == numbers.parts then numbers.version else sets.in_force;
      floor = if numbers.part == numbers.parts then floor_joined sets numbers floor else sets.floor;
    }

abbrev pub no_sets : Sets
no_sets = record { staged = None; staged_floor = None; in_force = 0; floor = None }

-- the floor that a set gives, else this one
abbrev pub floor_or : Option (Option ℕ) → ℕ → ℕ
floor_or None n = n
floor_or (Some floor) n = or_else floor n
