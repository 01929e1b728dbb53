-- When a message was made.
use Rattle.std.specs.Prelude.{◌≡◌, ℕ, pos, Option, Some, None, ◌==◌, if◌then◌else◌}
use Rattle.cap_leaf.specs.Date.{DateParts}
use Rattle.cap_leaf.specs.Moment.{utc_seconds}
use Rattle.cap_leaf.specs.declared.zone.Zone.TheVariants.{Utc}

-- a moment, in seconds since 1970, as a date and time in UTC without milliseconds
pub record IsMoment (moment : ℕ) (created : DateParts) : Type 0 where
  pub seconds : utc_seconds created ≡ pos moment
  pub millis : created.millis ≡ None
  pub zone : created.zone ≡ Utc

-- the counter of a message that is sent for so many times again: none at first
abbrev pub counter : ℕ → Option ℕ
counter repeat = if repeat == 0 then None else Some repeat
