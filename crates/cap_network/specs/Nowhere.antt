-- Lines that open an end again, and a terminal which is not there.
use Rattle.std.specs.Prelude.{ℕ, Option, Some, None}
use Rattle.cap_schedule.specs.declared.outcome.Outcome.{Outcome}
use Rattle.cap_schedule.specs.declared.outcome.Outcome.TheVariants.{IsOff, WasCut}
use Rattle.cap_schedule.specs.declared.schedule.Action.TheVariants.{Reopen}
use Rattle.cap_schedule.specs.declared.schedule.End.{End}
use Rattle.cap_schedule.specs.declared.schedule.Line.{Line}
use Rattle.cap_schedule.specs.declared.schedule.Prefix.{Prefix}
use Rattle.cap_schedule.specs.declared.schedule.Prefix.TheVariants.{Cut, Fail, CutAfter}

-- the line that opens an end again
abbrev pub reopening_line : (number : ℕ) → Option Prefix → End → Line
reopening_line number prefix end = record { number = number; prefix = prefix; action = Reopen end }

-- the outcome where no terminal is there: it makes no call at which the power could go
abbrev pub nowhere : Option Prefix → Outcome
nowhere None = IsOff
nowhere (Some (Cut call fill)) = IsOff
nowhere (Some (Fail call fill)) = IsOff
nowhere (Some CutAfter) = WasCut
