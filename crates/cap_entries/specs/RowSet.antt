-- Which rows are a parameter set, and why others are none.
use Rattle.std.specs.Prelude.{ℕ, nat_lt, if◌then◌else◌, List, [], ◌∷◌, Option, Some, None, Result, Ok, Err, length}
use Rattle.cap_base.specs.declared.parameters.Row.{Row}
use Rattle.cap_entries.specs.declared.rows.RowFault.{RowFault}
use Rattle.cap_entries.specs.declared.rows.RowFault.TheVariants.{Empty, TooMany, Repeated}
use Rattle.cap_entries.specs.Rows.{first_repeated}

abbrev pub unless_repeated : List Row → Option ℕ → Result (List Row) RowFault
unless_repeated rows None = Ok rows
unless_repeated rows (Some i) = Err (Repeated i)

abbrev pub row_set_of : List Row → Result (List Row) RowFault
row_set_of [] = Err Empty
row_set_of (row ∷ rows) =
    if nat_lt 256 (length (row ∷ rows)) then Err (TooMany (length (row ∷ rows)))
    else unless_repeated (row ∷ rows) (first_repeated (row ∷ rows))
