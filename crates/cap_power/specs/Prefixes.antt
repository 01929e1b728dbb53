-- What a prefix arms, in the words of a line whose device call may fail.
use Rattle.std.proofs.Common.{ℕ, Option, Some, None, refl}
use Rattle.cap_schedule.specs.declared.outcome.Outcome.{Outcome}
use Rattle.cap_schedule.specs.declared.schedule.Prefix.{Prefix}
use Rattle.cap_schedule.specs.declared.schedule.Prefix.TheVariants.{Cut, Fail, CutAfter}
use Rattle.cap_plays.specs.Armed.{IsArmed}
use Rattle.cap_power.specs.Counting.{stop_behind, CountsFromOne, cuts, outcome_of_fault}

-- the call that is armed
abbrev pub armed_of : Option Prefix → Option ℕ
armed_of None = None
armed_of (Some (Cut call fill)) = Some call
armed_of (Some (Fail call fill)) = Some call
armed_of (Some CutAfter) = None

-- what the line says where that call ends it
abbrev pub ended_of : Option Prefix → Outcome
ended_of prefix = outcome_of_fault (cuts prefix)

-- a disk on which the prefix was armed
pub armed_is : (prefix : Option Prefix) (calls : ℕ) → CountsFromOne prefix → IsArmed (armed_of prefix) (record { calls = calls; stop = stop_behind prefix calls })
armed_is None calls one = refl
armed_is (Some (Cut call fill)) calls one = (one, refl)
armed_is (Some (Fail call fill)) calls one = (one, refl)
armed_is (Some CutAfter) calls one = refl
