-- How many items the host has acknowledged.
use Rattle.std.specs.Prelude.{ℕ, List, [], ◌∷◌}
use Rattle.cap_entries.specs.declared.terminal.TermEntry.{TermEntry}
use Rattle.cap_entries.specs.declared.terminal.TermEntry.TheVariants.{Acked}

-- the number of the last Acked, or the first argument where there is none
abbrev pub acked_from : ℕ → List TermEntry → ℕ
acked_from acked [] = acked
acked_from acked (Acked m ∷ entries) = acked_from m entries
acked_from acked (_ ∷ entries) = acked_from acked entries

abbrev pub acked : List TermEntry → ℕ
acked entries = acked_from 0 entries
