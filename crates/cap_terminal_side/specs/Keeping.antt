-- What a line says and the text that it sends, and which texts are kept.
use Rattle.std.specs.Prelude.{ℕ, List, [], option_to_list, if◌then◌else◌, Option, None, Result, Ok, Err}
use Rattle.std.proofs.Common.{Vec, Global}
use Rattle.cap_schedule.specs.declared.outcome.Outcome.{Outcome}
use Rattle.cap_schedule.specs.declared.schedule.Prefix.{Prefix}
use Rattle.cap_plays.specs.declared.fault.LineFault.{LineFault}
use Rattle.cap_power.specs.Counting.{cuts_after}
use Rattle.cap_terminal_lines.specs.declared.said.Said.{Said}

abbrev pub outcome_in : Result Said LineFault → Result Outcome LineFault
outcome_in (Ok said) = Ok said.outcome
outcome_in (Err fault) = Err fault

abbrev pub text_in : Result Said LineFault → Option (Vec ℕ Global)
text_in (Ok said) = said.sent
text_in (Err fault) = None

-- a text is kept, unless the power went before it was sent
abbrev pub kept_of : Option Prefix → Option (Vec ℕ Global) → List (Vec ℕ Global)
kept_of prefix text = if cuts_after prefix then [] else option_to_list text
