-- The spellings of a date and time: `YYYY-MM-DDThh:mm:ss`, then nothing or `.` and three digits, then nothing, `Z`, `+hh:mm` or `-hh:mm`.
use Rattle.std.specs.Prelude.{ℕ, ◌+◌, Bool, ◌&&◌, ◌||◌, ◌==◌, nat_lt, if◌then◌else◌, List, [], ◌∷◌, length, take, drop, codes, Option, Some, None}
use Rattle.std.specs.List.{list_all}
use Rattle.std.specs.Char.{is_ascii_digit}
use Rattle.std.specs.Str.{bytes_eq}
use Rattle.std.specs.Str.Parse.{digits_value}
use Rattle.cap_leaf.specs.declared.zone.Zone.{Zone}
use Rattle.cap_leaf.specs.declared.zone.Zone.TheVariants.{Local, Utc, Offset}
use Rattle.cap_leaf.specs.Date.{DateParts, is_day}

-- the bytes of a text from a place on
abbrev pub part : ℕ → ℕ → List ℕ → List ℕ
part from count text = take count (drop from text)

-- the number that digits at a place write
abbrev pub number_at : ℕ → ℕ → List ℕ → ℕ
number_at from count text = digits_value 10 (part from count text)

abbrev pub are_digits : ℕ → List ℕ → Bool
are_digits count text = (length text == count) && list_all is_ascii_digit text

-- the six numbers of a moment
abbrev pub has_digits : List ℕ → Bool
has_digits text =
    are_digits 4 (part 0 4 text) && (are_digits 2 (part 5 2 text) && (are_digits 2 (part 8 2 text)
    && (are_digits 2 (part 11 2 text) && (are_digits 2 (part 14 2 text) && are_digits 2 (part 17 2 text)))))

-- what stands between them
abbrev pub has_marks : List ℕ → Bool
has_marks text =
    bytes_eq (part 4 1 text) (codes "-") && (bytes_eq (part 7 1 text) (codes "-")
    && (bytes_eq (part 10 1 text) (codes "T") && (bytes_eq (part 13 1 text) (codes ":") && bytes_eq (part 16 1 text) (codes ":"))))

-- a day of the calendar and a time of day
abbrev pub has_ranges : List ℕ → Bool
has_ranges text =
    is_day (number_at 0 4 text) (number_at 5 2 text) (number_at 8 2 text)
    && (nat_lt (number_at 11 2 text) 24 && (nat_lt (number_at 14 2 text) 60 && nat_lt (number_at 17 2 text) 60))

-- `YYYY-MM-DDThh:mm:ss`
abbrev pub is_moment : List ℕ → Bool
is_moment text = has_digits text && (has_marks text && has_ranges text)

-- `.` and three digits, where a point stands first
abbrev pub fraction_of : List ℕ → List ℕ
fraction_of text = if bytes_eq (take 1 text) (codes ".") then take 4 text else []

abbrev pub is_fraction : List ℕ → Bool
is_fraction text = bytes_eq text [] || are_digits 3 (drop 1 text)

abbrev pub millis_of : List ℕ → Option ℕ
millis_of [] = None
millis_of (point ∷ digits) = Some (digits_value 10 digits)

-- `+hh:mm` or `-hh:mm`
abbrev pub is_offset : List ℕ → Bool
is_offset text =
    (length text == 6) && ((bytes_eq (part 0 1 text) (codes "+") || bytes_eq (part 0 1 text) (codes "-"))
    && ((are_digits 2 (part 1 2 text) && (bytes_eq (part 3 1 text) (codes ":") && are_digits 2 (part 4 2 text)))
    && (nat_lt (number_at 1 2 text) 24 && nat_lt (number_at 4 2 text) 60)))

abbrev pub is_zone_text : List ℕ → Bool
is_zone_text text = bytes_eq text [] || (bytes_eq text (codes "Z") || is_offset text)

abbrev pub offset_in : List ℕ → Zone
offset_in text = Offset (bytes_eq (part 0 1 text) (codes "-")) (number_at 1 2 text) (number_at 4 2 text)

abbrev pub zone_of : List ℕ → Zone
zone_of text =
    if bytes_eq text [] then Local
    else if bytes_eq text (codes "Z") then Utc
    else offset_in text

abbrev pub fraction_in : List ℕ → List ℕ
fraction_in text = fraction_of (drop 19 text)

abbrev pub zone_in : List ℕ → List ℕ
zone_in text = drop (19 + length (fraction_in text)) text

abbrev pub is_date : List ℕ → Bool
is_date text = is_moment text && (is_fraction (fraction_in text) && is_zone_text (zone_in text))

abbrev pub date_of : List ℕ → DateParts
date_of text = record {
  year = number_at 0 4 text;
  month = number_at 5 2 text;
  day = number_at 8 2 text;
  hour = number_at 11 2 text;
  minute = number_at 14 2 text;
  second = number_at 17 2 text;
  millis = millis_of (fraction_in text);
  zone = zone_of (zone_in text);
}

-- what a text spells
abbrev pub date_time_of : List ℕ → Option DateParts
date_time_of text = if is_date text then Some (date_of text) else None
