-- The two numbers that a disk in memory tells.
use Rattle.std.specs.Prelude.{◌≡◌, ℕ, ◌+◌, ◌-◌, nat_lt, if◌then◌else◌, true, Option, Some, None}
use Rattle.cap_disk.specs.Disk.{Counts}
use Rattle.cap_disk.specs.declared.arming.Fill.{Fill}
use Rattle.cap_disk.specs.declared.arming.Counted.{Counted}
use Rattle.cap_disk.specs.declared.arming.Counted.TheVariants.{All, NoReads}
use Rattle.cap_disk.specs.declared.arming.Plan.{Plan}
use Rattle.cap_disk.specs.declared.arming.Switch.{Switch}

-- the number of the armed call, where one is armed
abbrev pub stop_of : ℕ → ℕ → Option ℕ
stop_of calls left = if nat_lt 0 left then Some (calls + left) else None

-- while reads are counted down, no number of a call without them is known
abbrev pub numbers : Counted → ℕ → ℕ → Option Counts
numbers NoReads calls left = Some (record { calls = calls; stop = stop_of calls left })
numbers All calls left = if nat_lt 0 left then None else Some (record { calls = calls; stop = None })

-- nothing is told once the power was cut
abbrev pub numbers_on : Option Fill → Counted → ℕ → ℕ → Option Counts
numbers_on (Some fill) counted calls left = None
numbers_on None counted calls left = numbers counted calls left

abbrev pub told : Switch → Option Counts
told s = numbers_on s.cut s.plan.counted s.calls s.plan.left

-- nothing is armed, and the power was not cut
abbrev pub IsIdle : Switch → Type 0
IsIdle s = (s.plan.left ≡ 0) × (s.cut ≡ None)

-- the next call that is counted cuts the power
abbrev pub CutsNext : Plan → Type 0
CutsNext plan = (plan.left ≡ 1) × (plan.cuts ≡ true)

-- one call was counted down
abbrev pub one_less : Plan → Plan
one_less plan = record plan { left = plan.left - 1 }

abbrev pub match_counted : Counted → Plan → Plan → Plan
match_counted All all rest = all
match_counted NoReads all rest = rest

-- a read was counted down, where reads are
abbrev pub less_read : Plan → Plan
less_read plan = match_counted plan.counted (one_less plan) plan
