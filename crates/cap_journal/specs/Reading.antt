-- Reading a file step by step.
use Rattle.std.specs.Prelude.{◌≡◌, ℕ, ◌+◌, ◌<◌, List, ◌++◌, length, Bool, true, false, Option, Some, None}
use Rattle.cap_journal.specs.File.{Reading, Found, records, groups, group_length, group_of}

-- these bytes as records and nothing else
abbrev pub all_records : {E : Type 0} → Reading E → List ℕ → Option (List E)
all_records reading bytes = records reading (length bytes) bytes

-- these entries before those that were read
abbrev pub with_front : {E : Type 0} → List E → Option (List E) → Option (List E)
with_front before None = None
with_front before (Some es) = Some (before ++ es)

abbrev pub some_if : {E : Type 0} → Bool → List E → Option (List E)
some_if true list = Some list
some_if false list = None

-- the groups from the gate at a place on
abbrev pub groups_from : {E : Type 0} → Reading E → ℕ → List ℕ → Found E
groups_from reading place bytes = groups reading (length bytes) place bytes

-- a group was read: its entries were added, and its body has so many bytes; or there is none
abbrev pub IsGroupRead : {E : Type 0} → Reading E → List ℕ → List E → List E → Option ℕ → Type 0
IsGroupRead reading bytes old new (Some size) = (size ≡ group_length bytes) × (4 + size < length bytes) × (with_front old (group_of reading bytes) ≡ Some new)
IsGroupRead reading bytes old new None = group_of reading bytes ≡ None
