-- Room for one entry of any size.
use Rattle.std.proofs.Common.{◌≡◌, ℕ, ◌-◌, ◌≤◌, Bool, true, false, [], ◌∷◌, Option, Some, None, refl, arith, lt-ltb}
use Rattle.std.specs.Prelude.{◌&&◌, nat_le, nat_lt, if◌then◌else◌, option_and_then, IsSome}
use Rattle.cap_journal.specs.declared.spare.Spare.{Spare}
use Rattle.cap_journal.specs.Spare.{less, Suffices}

room_in : (small more : Bool) (a b : Spare) → more ≡ true → IsSome (option_and_then (less []) (if small then Some a else if more then Some b else None))
room_in true more a b is = refl
room_in false true a b is = refl
room_in false false a b is = cc

pub one_row : (size : ℕ) (spare : Spare) → 1 ≤ spare.rows → Suffices (size ∷ []) spare
one_row size spare some =
    room_in (nat_le size 72 && nat_lt 0 spare.small) (nat_lt 0 spare.rows) (record { small = spare.small - 1; rows = spare.rows }) (record { small = spare.small; rows = spare.rows - 1 }) (lt-ltb 0 spare.rows (omega (arith, some)))
