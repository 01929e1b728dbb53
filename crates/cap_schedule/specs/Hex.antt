-- Bytes in hexadecimal digits, two to a byte, in lower case.
use Rattle.std.specs.Prelude.{ℕ, ◌+◌, ◌*◌, ◌-◌, ◌&&◌, nat_le, if◌then◌else◌, List, [], ◌∷◌, Option, Some, None}
use Rattle.cap_schedule.specs.Several.{one_before}

abbrev pub hex_digit : ℕ → Option ℕ
hex_digit b = if nat_le 48 b && nat_le b 57 then Some (b - 48) else (if nat_le 97 b && nat_le b 102 then Some (b - 87) else None)

abbrev pub both_digits : Option ℕ → Option ℕ → Option ℕ
both_digits None low = None
both_digits (Some high) None = None
both_digits (Some high) (Some low) = Some (16 * high + low)

abbrev pub hex_byte : ℕ → ℕ → Option ℕ
hex_byte high low = both_digits (hex_digit high) (hex_digit low)

abbrev pub hex_bytes : List ℕ → Option (List ℕ)
hex_bytes [] = Some []
hex_bytes (high ∷ []) = None
hex_bytes (high ∷ low ∷ more) = one_before (hex_byte high low) (hex_bytes more)
