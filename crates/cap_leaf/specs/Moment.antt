-- The moment that a date and a clock show.
use Rattle.std.specs.Prelude.{ℕ, ◌+◌, ◌*◌, ℤ, pos, ◌+ℤ◌, ◌*ℤ◌}
use Rattle.jiff_core.specs.Calendar.{days_from_civil}
use Rattle.cap_leaf.specs.Date.{DateParts}

-- seconds since midnight
abbrev pub clock_of : DateParts → ℕ
clock_of d = d.hour * 3600 + d.minute * 60 + d.second

-- seconds since 1970 of the day and the clock, as they stand in UTC
abbrev pub utc_seconds : DateParts → ℤ
utc_seconds d = days_from_civil (pos d.year) d.month d.day *ℤ pos 86400 +ℤ pos (clock_of d)
