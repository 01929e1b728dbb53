-- Amounts of money, in hundredths, and their spellings.
use Rattle.std.specs.Prelude.{ℕ, ◌+◌, ◌*◌, ◌/◌, ◌%◌, ◌≤◌, Bool, true, false, ◌==◌, ◌&&◌, List, [], ◌∷◌, ◌++◌, Option, Some, None, length, drop, nat_le, if◌then◌else◌}
use Rattle.std.specs.Char.{is_ascii_digit, digit_value}
use Rattle.std.specs.List.{take_while}
use Rattle.std.specs.Str.Parse.{digits_value}
use Rattle.std.specs.Fmt.{decimal}

-- 0.01 to 9999999999.99
pub record IsAmount (hundredths : ℕ) : Type 0 where
  pub some : 1 ≤ hundredths
  pub within : hundredths ≤ 999999999999

-- the digits at the front of a text
abbrev pub whole_of : List ℕ → List ℕ
whole_of text = take_while is_ascii_digit text

-- what stands after them
abbrev pub tail_of : List ℕ → List ℕ
tail_of text = drop (length (whole_of text)) text

-- nothing, or a point and one or two digits
abbrev pub is_tail : List ℕ → Bool
is_tail [] = true
is_tail (point ∷ []) = false
is_tail (point ∷ d ∷ []) = (point == 46) && is_ascii_digit d
is_tail (point ∷ d ∷ e ∷ []) = (point == 46) && (is_ascii_digit d && is_ascii_digit e)
is_tail (point ∷ d ∷ e ∷ f ∷ rest) = false

-- the hundredths of what stands after the digits; one decimal stands for tenths
abbrev pub cents_of : List ℕ → ℕ
cents_of [] = 0
cents_of (point ∷ []) = 0
cents_of (point ∷ d ∷ []) = 10 * digit_value d
cents_of (point ∷ d ∷ e ∷ rest) = 10 * digit_value d + digit_value e

-- what a text spells, in hundredths
abbrev pub hundredths_of : List ℕ → ℕ
hundredths_of text = 100 * digits_value 10 (whole_of text) + cents_of (tail_of text)

-- 1 to most digits, then nothing or a point and one or two digits
abbrev pub is_decimal : ℕ → List ℕ → Bool
is_decimal most text = (nat_le 1 (length (whole_of text)) && nat_le (length (whole_of text)) most) && is_tail (tail_of text)

-- the hundredths that such a text spells
abbrev pub decimal_of : ℕ → List ℕ → Option ℕ
decimal_of most text = if is_decimal most text then Some (hundredths_of text) else None

-- an amount or zero
abbrev pub money_of : List ℕ → Option ℕ
money_of text = decimal_of 10 text

-- an amount: at least 0.01
abbrev pub amount_of : List ℕ → Option ℕ
amount_of text = if is_decimal 10 text && nat_le 1 (hundredths_of text) then Some (hundredths_of text) else None

-- hundredths with two decimals: the canonical spelling
abbrev pub amount_text : ℕ → List ℕ
amount_text n = decimal (n / 100) ++ 46 ∷ (48 + n / 10 % 10) ∷ (48 + n % 10) ∷ []
