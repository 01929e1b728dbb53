-- Numbers in digits.
use Rattle.std.specs.Prelude.{ℕ, List, Option, Some, None, if◌then◌else◌}
use Rattle.std.specs.Char.{is_ascii_digit}
use Rattle.std.specs.Str.Parse.{digits_value}
use Rattle.cap_base.specs.Text.{is_run}

-- the number that 1 to most digits spell
abbrev pub number_of : ℕ → List ℕ → Option ℕ
number_of most text = if is_run 1 most is_ascii_digit text then Some (digits_value 10 text) else None
