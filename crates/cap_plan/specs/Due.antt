-- The moments of a planned action, in seconds since 1970.
use Rattle.std.specs.Prelude.{◌≡◌, ℕ, ◌+◌, ◌*◌, true, false, ℤ, pos, neg_ℤ, ◌+ℤ◌, ◌-ℤ◌, ◌<ℤ◌, ◌≤ℤ◌}
use Rattle.cap_leaf.specs.declared.zone.Zone.{Zone}
use Rattle.cap_leaf.specs.declared.zone.Zone.TheVariants.{Local, Utc, Offset}
use Rattle.cap_leaf.specs.Date.{DateParts}
use Rattle.cap_leaf.specs.Moment.{utc_seconds}
use Rattle.cap_mgmt_msgs.specs.declared.actions.Action.{Action}

-- the seconds by which the clocks of a zone are ahead of UTC; where no zone is told, none
abbrev pub offset_of : Zone → ℤ
offset_of Local = pos 0
offset_of Utc = pos 0
offset_of (Offset false hours minutes) = pos (hours * 3600 + minutes * 60)
offset_of (Offset true hours minutes) = neg_ℤ (pos (hours * 3600 + minutes * 60))

-- the moment that a date and time names; its milliseconds are dropped
abbrev pub moment_of_parts : DateParts → ℤ
moment_of_parts d = utc_seconds d -ℤ offset_of d.zone

-- The moments of an action: its start, and every so many minutes after it. Where the minutes are 0, its start alone.
pub record IsMoment (action : Action) (moment : ℤ) : Type 0 where
  pub times : ℕ
  pub is : moment ≡ moment_of_parts action.start +ℤ pos (60 * action.minutes * times)

-- a moment of the action is above the last one that was looked at, and at most now
abbrev pub IsDue : Action → (last now : ℤ) → Type 0
IsDue action last now = (moment : ℤ) × IsMoment action moment × (last <ℤ moment) × (moment ≤ℤ now)

-- the least moment of the action above now
pub record IsNext (action : Action) (now moment : ℤ) : Type 0 where
  pub is : IsMoment action moment
  pub later : now <ℤ moment
  pub first : (other : ℤ) → IsMoment action other → now <ℤ other → moment ≤ℤ other

-- no moment of the action is above now
abbrev pub IsOver : Action → (now : ℤ) → Type 0
IsOver action now = (moment : ℤ) → IsMoment action moment → moment ≤ℤ now

-- at most 10^12 seconds from 1970, which is more than thirty thousand years
pub record IsNear (moment : ℤ) : Type 0 where
  pub low : neg_ℤ (pos 1000000000000) ≤ℤ moment
  pub high : moment ≤ℤ pos 1000000000000
