-- The room of a journal for further entries.
use Rattle.std.specs.Prelude.{ℕ, ◌+◌, ◌-◌, ◌*◌, ◌≤◌, List, [], ◌∷◌, nat_le, nat_lt, ◌&&◌, if◌then◌else◌, Option, Some, None, option_and_then, IsSome, IfSome}
use Rattle.cap_journal.specs.declared.spare.Spare.{Spare}

-- what is left after an entry whose record has this many bytes
abbrev pub less_one : ℕ → Spare → Option Spare
less_one size spare =
    if nat_le size 72 && nat_lt 0 spare.small then Some (record { small = spare.small - 1; rows = spare.rows })
    else if nat_lt 0 spare.rows then Some (record { small = spare.small; rows = spare.rows - 1 }) else None

-- what is left after entries of these sizes
abbrev pub less : List ℕ → Spare → Option Spare
less [] spare = Some spare
less (size ∷ sizes) spare = option_and_then (less sizes) (less_one size spare)

abbrev pub Suffices : List ℕ → Spare → Type 0
Suffices sizes spare = IsSome (less sizes spare)

-- none of the two is lower
pub record NoLower (old new : Spare) : Type 0 where
  pub small : old.small ≤ new.small
  pub rows : old.rows ≤ new.rows

-- entries of these sizes were taken, and no more
abbrev pub Takes : List ℕ → Spare → Spare → Type 0
Takes sizes old new = IfSome (less sizes old) (λ left. NoLower left new)

-- how many bytes all these entries write at most: length, gate and the gate again
abbrev pub bytes_for : Spare → ℕ
bytes_for spare = 78 * spare.small + 65542 * spare.rows

abbrev pub entries_for : Spare → ℕ
entries_for spare = spare.small + spare.rows
