-- Which device call of a disk is to fail, and what the calls of a line leave of that.
use Rattle.std.specs.Prelude.{◌≡◌, ℕ, ◌+◌, ◌≤◌, Option, Some, None}
use Rattle.cap_disk.specs.Disk.{Counts}
use Rattle.cap_journal.specs.Told.{StopsAt}

-- this device call is armed, counted from here, or none is
abbrev pub IsArmed : Option ℕ → Counts → Type 0
IsArmed None counts = counts.stop ≡ None
IsArmed (Some c) counts = (1 ≤ c) × StopsAt c counts

-- at most so many calls were made, and what is armed stays armed
pub record GoesOn (n : ℕ) (before now : Counts) : Type 0 where
  pub stop : now.stop ≡ before.stop
  pub later : before.calls ≤ now.calls
  pub few : now.calls ≤ before.calls + n
