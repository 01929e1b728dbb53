-- What a journal's file holds.
use Rattle.std.specs.Prelude.{replicate, slice_index, IsSome, ◌≡◌, ◌⊎◌, ℕ, zero, suc, ◌+◌, List, [], ◌∷◌, ◌++◌, length, take, drop, Bool, ◌&&◌, ◌==◌, nat_le, nat_lt, if◌then◌else◌, Option, Some, None}
use Rattle.byteorder.specs.Endian.{big_number}

-- How the record at the head of some bytes reads: its value and its number of bytes.
abbrev pub Reading : Type 0 → Type 0
Reading E = List ℕ → Option (E × ℕ)

-- what opening finds: the entries, the gate of each entry's group, and the last gate; or where the first group stands that isn't whole
pub data Found (E : Type 0) : Type 0 where
  Whole : List E → List ℕ → ℕ → Found E
  NotFormatted : Found E
  Damaged : ℕ → Found E

abbrev pub with_first : {E : Type 0} → E → Option (List E) → Option (List E)
with_first e None = None
with_first e (Some es) = Some (e ∷ es)

-- a record, and then what these records are
abbrev pub records_behind : {E : Type 0} → (List ℕ → Option (List E)) → List ℕ → Option (E × ℕ) → Option (List E)
records_behind rest bytes None = None
records_behind rest bytes (Some found) = with_first found.0 (rest (drop found.1 bytes))

-- these bytes as records and nothing else, at most so many
abbrev pub records : {E : Type 0} → Reading E → ℕ → List ℕ → Option (List E)
records reading n [] = Some []
records reading zero (b ∷ bytes) = None
records reading (suc n) (b ∷ bytes) = records_behind (λ rest. records reading n rest) (b ∷ bytes) (reading (b ∷ bytes))

-- the number that the first four bytes are
unfoldable pub group_length : List ℕ → ℕ
group_length bytes = big_number 4 bytes

-- the group behind an open gate: its length has four bytes, its body is records, and a gate stands behind it
abbrev pub fits_group : List ℕ → Bool
fits_group bytes = nat_le 4 (length bytes) && nat_le 1 (group_length bytes) && nat_le (group_length bytes) 65536 && nat_lt (4 + group_length bytes) (length bytes)

abbrev pub body_of : List ℕ → List ℕ
body_of bytes = take (group_length bytes) (drop 4 bytes)

abbrev pub group_of : {E : Type 0} → Reading E → List ℕ → Option (List E)
group_of reading bytes = if fits_group bytes then records reading (group_length bytes) (body_of bytes) else None

-- entries with their gates before what was found
abbrev pub behind : {E : Type 0} → List E → List ℕ → Found E → Found E
behind es at (Whole list gates end) = Whole (es ++ list) (at ++ gates) end
behind es at NotFormatted = NotFormatted
behind es at (Damaged place) = Damaged place

-- a group, and then what these groups are
abbrev pub group_behind : {E : Type 0} → (ℕ → List ℕ → Found E) → ℕ → List ℕ → Option (List E) → Found E
group_behind rest place bytes None = Damaged place
group_behind rest place bytes (Some es) = behind es (replicate (length es) place) (rest (place + 5 + group_length bytes) (drop (4 + group_length bytes) bytes))

-- the groups from the gate at this place on, at most so many
abbrev pub groups : {E : Type 0} → Reading E → ℕ → ℕ → List ℕ → Found E
groups reading zero place bytes = NotFormatted
groups reading (suc n) place [] = NotFormatted
groups reading (suc n) place (gate ∷ bytes) = if gate == 165 then group_behind (λ next rest. groups reading n next rest) place bytes (group_of reading bytes) else Whole [] [] place

-- what opening finds in this image
abbrev pub journal_of : {E : Type 0} → Reading E → List ℕ → Found E
journal_of reading image = groups reading (length image) 0 image

abbrev pub entries_found : {E : Type 0} → Found E → Option (List E)
entries_found (Whole list gates end) = Some list
entries_found NotFormatted = None
entries_found (Damaged place) = None

-- the entries of an image that is formatted and not damaged
abbrev pub entries_in : {E : Type 0} → Reading E → List ℕ → Option (List E)
entries_in reading image = entries_found (journal_of reading image)

-- the gates of the entries
abbrev pub gates_found : {E : Type 0} → Found E → Option (List ℕ)
gates_found (Whole list gates end) = Some gates
gates_found NotFormatted = None
gates_found (Damaged place) = None

-- the place of the last gate
abbrev pub end_found : {E : Type 0} → Found E → Option ℕ
end_found (Whole list gates end) = Some end
end_found NotFormatted = None
end_found (Damaged place) = None

-- the gate of the group that holds entry i, or the last gate
abbrev pub gate_of : List ℕ → ℕ → ℕ → ℕ
gate_of gates end i = if nat_lt i (length gates) then slice_index gates i else end

abbrev pub place_found : {E : Type 0} → ℕ → Found E → Option ℕ
place_found i (Whole list gates end) = Some (gate_of gates end i)
place_found i NotFormatted = None
place_found i (Damaged place) = None

-- the image has at least one byte and isn't damaged
abbrev pub IsFormatted : {E : Type 0} → Reading E → List ℕ → Type 0
IsFormatted reading image = IsSome (entries_in reading image)

-- the image has exactly these entries
abbrev pub Has : {E : Type 0} → Reading E → List ℕ → List E → Type 0
Has reading image list = entries_in reading image ≡ Some list

-- the image has the entries before, or those after
abbrev pub HasEither : {E : Type 0} → Reading E → List E → List E → List ℕ → Type 0
HasEither reading before after image = Has reading image before ⊎ Has reading image after
