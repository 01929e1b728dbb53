-- Several values that are read one after the other.
use Rattle.std.specs.Prelude.{List, ◌∷◌, Option, Some, None}

-- a value before others, where each is there
abbrev pub one_before : {X : Type 0} → Option X → Option (List X) → Option (List X)
one_before None others = None
one_before (Some x) None = None
one_before (Some x) (Some others) = Some (x ∷ others)
