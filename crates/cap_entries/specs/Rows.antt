-- The rows of a parameter set.
use Rattle.std.specs.Prelude.{ℕ, Bool, true, false, ◌&&◌, nat_le, if◌then◌else◌, List, [], ◌∷◌, ◌++◌, Option, Some, None, length, bytes_eq}
use Rattle.std.specs.List.{list_any}
use Rattle.cap_base.specs.declared.parameters.Row.{Row}

abbrev pub has_key : List ℕ → Row → Bool
has_key key row = bytes_eq row.key key

-- the place of the first of the rows whose key stands in one before it
abbrev pub first_repeated_from : List Row → List Row → Option ℕ
first_repeated_from before [] = None
first_repeated_from before (row ∷ rows) = if list_any (has_key row.key) before then Some (length before) else first_repeated_from (before ++ row ∷ []) rows

abbrev pub first_repeated : List Row → Option ℕ
first_repeated rows = first_repeated_from [] rows

abbrev pub is_none : Option ℕ → Bool
is_none None = true
is_none (Some n) = false

-- 1 to 256 rows, none of whose keys stands in one before it
abbrev pub is_row_set : List Row → Bool
is_row_set rows = (nat_le 1 (length rows) && nat_le (length rows) 256) && is_none (first_repeated rows)
