-- The spellings of names, accounts and codes.
use Rattle.std.specs.Prelude.{◌≡◌, ℕ, ◌-◌, ◌≤◌, Bool, ◌||◌, ◌&&◌, List, Option, Some, None, length, drop, replicate, nat_le, if◌then◌else◌}
use Rattle.std.specs.Char.{is_ascii_alphanumeric, is_ascii_digit, is_ascii_uppercase}
use Rattle.std.specs.List.{list_all}

-- least to most bytes, each of which passes the test
abbrev pub is_run : ℕ → ℕ → (ℕ → Bool) → List ℕ → Bool
is_run least most test text = (nat_le least (length text) && nat_le (length text) most) && list_all test text

-- a letter, a digit, or one of `-`, `.`, `/`
abbrev pub is_ident_byte : ℕ → Bool
is_ident_byte b = is_ascii_alphanumeric b || (nat_le 45 b && nat_le b 47)

-- the spellings of an `Ident`: 1 to 35 letters, digits, `-`, `.`, `/`
abbrev pub is_ident : List ℕ → Bool
is_ident text = is_run 1 35 is_ident_byte text

-- the spellings of an `Account`: 8 to 19 digits
abbrev pub is_account : List ℕ → Bool
is_account text = is_run 8 19 is_ascii_digit text

-- a capital letter or a digit
abbrev pub is_code_byte : ℕ → Bool
is_code_byte b = is_ascii_uppercase b || is_ascii_digit b

-- the spellings of a `Code6`: six capital letters or digits
abbrev pub is_code6 : List ℕ → Bool
is_code6 text = is_run 6 6 is_code_byte text

-- what a text spells: itself, where it is a spelling
abbrev pub spelt_if : Bool → List ℕ → Option (List ℕ)
spelt_if test text = if test then Some text else None

abbrev pub ident_of : List ℕ → Option (List ℕ)
ident_of text = spelt_if (is_ident text) text

abbrev pub account_of : List ℕ → Option (List ℕ)
account_of text = spelt_if (is_account text) text

abbrev pub code6_of : List ℕ → Option (List ℕ)
code6_of text = spelt_if (is_code6 text) text

-- an array of n bytes that holds a text of the length len and then zeros
pub record IsPadded (n : ℕ) (bytes : List ℕ) (len : ℕ) : Type 0 where
  pub width : length bytes ≡ n
  pub fits : len ≤ n
  pub rest : drop len bytes ≡ replicate (n - len) 0
