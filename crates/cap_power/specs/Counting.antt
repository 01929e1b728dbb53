-- How many device calls a disk has answered, and which one is armed on it.
use Rattle.std.specs.Prelude.{◌≡◌, ℕ, ◌+◌, ◌≤◌, Bool, true, false, Option, Some, None, ⊤}
use Rattle.cap_disk.specs.Disk.{Counts}
use Rattle.cap_schedule.specs.declared.outcome.Outcome.{Outcome}
use Rattle.cap_schedule.specs.declared.outcome.Outcome.TheVariants.{WasCut, DiskFailed}
use Rattle.cap_schedule.specs.declared.schedule.Prefix.{Prefix}
use Rattle.cap_schedule.specs.declared.schedule.Prefix.TheVariants.{Cut, Fail, CutAfter}

-- the number of the call that a prefix arms, behind so many calls
abbrev pub stop_behind : Option Prefix → ℕ → Option ℕ
stop_behind None calls = None
stop_behind (Some (Cut call fill)) calls = Some (calls + call)
stop_behind (Some (Fail call fill)) calls = Some (calls + call)
stop_behind (Some CutAfter) calls = None

-- calls of a prefix count from 1
abbrev pub CountsFromOne : Option Prefix → Type 0
CountsFromOne None = ⊤
CountsFromOne (Some (Cut call fill)) = 1 ≤ call
CountsFromOne (Some (Fail call fill)) = 1 ≤ call
CountsFromOne (Some CutAfter) = ⊤

-- the power goes at a call
abbrev pub cuts : Option Prefix → Bool
cuts None = false
cuts (Some (Cut call fill)) = true
cuts (Some (Fail call fill)) = false
cuts (Some CutAfter) = false

-- it goes after all calls
abbrev pub cuts_after : Option Prefix → Bool
cuts_after None = false
cuts_after (Some (Cut call fill)) = false
cuts_after (Some (Fail call fill)) = false
cuts_after (Some CutAfter) = true

-- it arms a call
abbrev pub arms : Option Prefix → Bool
arms None = false
arms (Some (Cut call fill)) = true
arms (Some (Fail call fill)) = true
arms (Some CutAfter) = false

-- what a line says that a device call has ended
abbrev pub outcome_of_fault : Bool → Outcome
outcome_of_fault true = WasCut
outcome_of_fault false = DiskFailed

-- a disk that tells its numbers has answered at most so many calls, and the call that the prefix names is armed on it, or none
pub record Counting (prefix : Option Prefix) (most : ℕ) (told : Option Counts) : Type 0 where
  pub calls : ℕ
  pub few : calls ≤ most
  pub is : told ≡ Some (record { calls = calls; stop = stop_behind prefix calls })
