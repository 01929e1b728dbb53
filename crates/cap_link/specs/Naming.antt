-- Which calls are named to fail.
use Rattle.std.specs.Prelude.{ℕ, ◌+◌, ◌-◌, ◌^◌, min, List}
use Rattle.cap_link.specs.declared.naming.Naming.{Naming}

-- the calls that will fail
abbrev pub named_in : Naming → List ℕ
named_in naming = naming.named.items

-- the number of the next call
abbrev pub call_in : Naming → ℕ
call_in naming = min (naming.calls + 1) (2 ^ 64 - 1)
