-- How records are put together of fields: what stands at a place of some bytes, and the fields that know no type of an entry.
use Rattle.std.specs.Prelude.{ℕ, zero, suc, ◌+◌, ◌-◌, ◌^◌, Bool, ◌&&◌, ◌==◌, nat_lt, if◌then◌else◌, List, [], ◌∷◌, ◌++◌, length, take, drop, Option, Some, None}
use Rattle.std.specs.Int.{w64, to_be_bytes, from_be_bytes}
use Rattle.std.specs.List.{list_all, flat_map}

-- what stands at a place of some bytes, if a field does: its value, and the place behind it
abbrev pub FieldAt : Type 0 → Type 0
FieldAt A = List ℕ → ℕ → Option (A × ℕ)

-- one field, and behind it what follows such a value
abbrev pub and_next : {A B : Type 0} → Option (A × ℕ) → (A → ℕ → Option (B × ℕ)) → Option (B × ℕ)
and_next None next = None
and_next (Some found) next = next found.0 found.1

abbrev pub placed : {B : Type 0} → Option B → ℕ → Option (B × ℕ)
placed None end = None
placed (Some value) end = Some (value, end)

-- the value that a field stands for, where it stands for one
abbrev pub read_as : {A B : Type 0} → (A → Option B) → FieldAt A → FieldAt B
read_as of field bytes at = and_next (field bytes at) (λ value end. placed (of value) end)

abbrev pub as_at : {A B : Type 0} → (A → B) → FieldAt A → FieldAt B
as_at of field bytes at = read_as (λ value. Some (of value)) field bytes at

-- two fields, one behind the other
abbrev pub pair_end : {A B : Type 0} → A → B → ℕ → Option ((A × B) × ℕ)
pair_end a b end = Some ((a, b), end)

abbrev pub pair_at : {A B : Type 0} → FieldAt A → FieldAt B → FieldAt (A × B)
pair_at first second bytes at = and_next (first bytes at) (λ a next. and_next (second bytes next) (pair_end a))

-- so many fields of one sort
abbrev pub times_end : {A : Type 0} → A → List A → ℕ → Option (List A × ℕ)
times_end a list end = Some (a ∷ list, end)

abbrev pub times_at : {A : Type 0} → FieldAt A → ℕ → FieldAt (List A)
times_at field zero bytes at = Some ([], at)
times_at field (suc n) bytes at = and_next (field bytes at) (λ a next. and_next (times_at field n bytes next) (times_end a))

-- one field where a first byte has been read as this, else another
abbrev pub choose : {A : Type 0} → ℕ → ℕ → FieldAt A → FieldAt A → FieldAt A
choose first byte field other = if first == byte then field else other

abbrev pub nothing_at : {A : Type 0} → FieldAt A
nothing_at bytes at = None

abbrev pub if_test : {A : Type 0} → (A → Bool) → A → Option A
if_test test value = if test value then Some value else None

abbrev pub is_byte : ℕ → Bool
is_byte b = nat_lt b 256

-- a number that eight bytes hold
abbrev pub is_number : ℕ → Bool
is_number n = nat_lt n (2 ^ 64)

-- so many bytes
abbrev pub bytes_at : ℕ → FieldAt (List ℕ)
bytes_at n bytes at = if length (take n (drop at bytes)) == n then Some (take n (drop at bytes), at + n) else None

abbrev pub small_of : List ℕ → Option ℕ
small_of [] = None
small_of (b ∷ rest) = if is_byte b then Some b else None

abbrev pub number_of : List ℕ → Option ℕ
number_of text = if list_all is_byte text then Some (from_be_bytes w64 text) else None

-- a small number: one byte
unfoldable pub small_at : FieldAt ℕ
small_at bytes at = read_as small_of (bytes_at 1) bytes at

-- a number: eight bytes, the highest first
unfoldable pub number_at : FieldAt ℕ
number_at bytes at = read_as number_of (bytes_at 8) bytes at

-- a text: its number of bytes, a small number, and these bytes
unfoldable pub text_at : FieldAt (List ℕ)
text_at bytes at = and_next (small_at bytes at) (λ size next. bytes_at size bytes next)

-- a list: its length less a number, as a small number, and its fields
abbrev pub list_at : {A : Type 0} → ℕ → FieldAt A → FieldAt (List A)
list_at more field bytes at = and_next (small_at bytes at) (λ n next. times_at field (n + more) bytes next)

-- ---- how they are written

abbrev pub small_bytes : ℕ → List ℕ
small_bytes n = n ∷ []

unfoldable pub number_bytes : ℕ → List ℕ
number_bytes n = to_be_bytes w64 n

abbrev pub text_bytes : List ℕ → List ℕ
text_bytes text = length text ∷ text

abbrev pub list_bytes : {A : Type 0} → ℕ → (A → List ℕ) → List A → List ℕ
list_bytes more bytes_of list = (length list - more) ∷ flat_map bytes_of list
