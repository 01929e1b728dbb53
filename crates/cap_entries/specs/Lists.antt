-- The lists of a host's set-up: the names of its terminals, and the prefixes of accounts that it blocks.
use Rattle.std.specs.Prelude.{ℕ, Bool, true, ◌&&◌, not, nat_le, if◌then◌else◌, List, [], ◌∷◌, Option, Some, None, length, bytes_eq}
use Rattle.std.specs.List.{list_any, list_all}
use Rattle.std.specs.Char.{is_ascii_digit}

-- no name stands twice
abbrev pub are_distinct : List (List ℕ) → Bool
are_distinct [] = true
are_distinct (name ∷ names) = not (list_any (bytes_eq name) names) && are_distinct names

-- 1 to 16 names, no two equal
abbrev pub is_idents : List (List ℕ) → Bool
is_idents names = (nat_le 1 (length names) && nat_le (length names) 16) && are_distinct names

abbrev pub idents_of : List (List ℕ) → Option (List (List ℕ))
idents_of names = if is_idents names then Some names else None

-- six digits; the type of a prefix gives the length
abbrev pub is_prefix : List ℕ → Bool
is_prefix prefix = list_all is_ascii_digit prefix

-- at most 64 prefixes
abbrev pub is_blocks : List (List ℕ) → Bool
is_blocks prefixes = nat_le (length prefixes) 64 && list_all is_prefix prefixes

abbrev pub blocks_of : List (List ℕ) → Option (List (List ℕ))
blocks_of prefixes = if is_blocks prefixes then Some prefixes else None
