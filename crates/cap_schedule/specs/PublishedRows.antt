-- The rows of a parameter set, as a line that publishes it has them: `KEY=VALUE` with commas between.
use Rattle.std.specs.Prelude.{ℕ, ◌==◌, List, [], ◌∷◌, Option, Some, None, Result, Ok, Err}
use Rattle.std.specs.List.{slice_split}
use Rattle.cap_base.specs.Text.{ident_of}
use Rattle.cap_base.specs.declared.parameters.Row.{Row}
use Rattle.cap_entries.specs.declared.rows.RowFault.{RowFault}
use Rattle.cap_entries.specs.RowSet.{row_set_of}
use Rattle.cap_schedule.specs.Several.{one_before}

abbrev pub row_with : Option (List ℕ) → Option (List ℕ) → Option Row
row_with None value = None
row_with (Some key) None = None
row_with (Some key) (Some value) = Some (record { key = key; value = value })

abbrev pub row_of : List (List ℕ) → Option Row
row_of (key ∷ value ∷ []) = row_with (ident_of key) (ident_of value)
row_of _ = None

abbrev pub row_in : List ℕ → Option Row
row_in text = row_of (slice_split (λ b. b == 61) text)

abbrev pub rows_of : List (List ℕ) → Option (List Row)
rows_of [] = Some []
rows_of (text ∷ texts) = one_before (row_in text) (rows_of texts)

abbrev pub set_if : Result (List Row) RowFault → Option (List Row)
set_if (Ok rows) = Some rows
set_if (Err fault) = None

abbrev pub set_of : Option (List Row) → Option (List Row)
set_of None = None
set_of (Some rows) = set_if (row_set_of rows)

-- 1 to 256 rows with distinct keys
abbrev pub set_in : List ℕ → Option (List Row)
set_in text = set_of (rows_of (slice_split (λ b. b == 44) text))
