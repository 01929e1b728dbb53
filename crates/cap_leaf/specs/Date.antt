-- Dates and times of day.
use Rattle.std.specs.Prelude.{ℕ, ◌%◌, Bool, true, ◌&&◌, ◌||◌, not, ◌==◌, nat_le, nat_lt, if◌then◌else◌, Option, Some, None}
use Rattle.cap_leaf.specs.declared.zone.Zone.{Zone}
use Rattle.cap_leaf.specs.declared.zone.Zone.TheVariants.{Local, Utc, Offset}

-- the parts of a date and time
pub record DateParts : Type 0 where
  pub year : ℕ
  pub month : ℕ
  pub day : ℕ
  pub hour : ℕ
  pub minute : ℕ
  pub second : ℕ
  pub millis : Option ℕ
  pub zone : Zone

abbrev pub is_leap : ℕ → Bool
is_leap year = (year % 4 == 0) && (not (year % 100 == 0) || (year % 400 == 0))

abbrev pub days_in : ℕ → ℕ → ℕ
days_in year month =
    if month == 2 then (if is_leap year then 29 else 28)
    else if (month == 4) || ((month == 6) || ((month == 9) || (month == 11))) then 30 else 31

-- the calendar has this day
abbrev pub is_day : ℕ → ℕ → ℕ → Bool
is_day year month day = (nat_le 1 month && nat_le month 12) && (nat_le 1 day && nat_le day (days_in year month))

abbrev pub is_millis : Option ℕ → Bool
is_millis None = true
is_millis (Some n) = nat_lt n 1000

abbrev pub is_zone : Zone → Bool
is_zone Local = true
is_zone Utc = true
is_zone (Offset minus hours minutes) = nat_lt hours 24 && nat_lt minutes 60

-- the rule of the type: a day of the years 0 to 9999, a time of day, and an offset of less than a day
abbrev pub is_date_time : DateParts → Bool
is_date_time d =
    (nat_le d.year 9999 && is_day d.year d.month d.day)
    && ((nat_lt d.hour 24 && (nat_lt d.minute 60 && nat_lt d.second 60))
    && (is_millis d.millis && is_zone d.zone))
