-- What the fate of a terminal's line by its prefix is in the words of a line whose device call may fail.
use Rattle.std.proofs.Common.{◌≡◌, true, false, List, [], ◌∷◌, ◌++◌, length, Option, Some, None, refl}
use Rattle.cap_schedule.specs.declared.outcome.Outcome.{Outcome}
use Rattle.cap_schedule.specs.declared.outcome.Outcome.TheVariants.{WasCut}
use Rattle.cap_schedule.specs.declared.schedule.Prefix.{Prefix}
use Rattle.cap_schedule.specs.declared.schedule.Prefix.TheVariants.{Cut, Fail, CutAfter}
use Rattle.cap_world.specs.World.{TerminalState}
use Rattle.cap_plays.specs.Turns.{Work, worked, Turn}
use Rattle.cap_plays.specs.Plays.{no_doubt}
use Rattle.cap_plays.specs.Corresponds.{end_whole, end_after, end_fate}
use Rattle.cap_power.specs.Counting.{cuts_after}
use Rattle.cap_power.specs.Prefixes.{armed_of, ended_of}
use Rattle.cap_terminal_lines.specs.Acts.{end_armed}

-- a line whose end the power outlives
pub fate_is_armed : (prefix : Option Prefix) (s : TerminalState) (turn : Turn) → cuts_after prefix ≡ false → end_fate prefix s turn ≡ end_armed (armed_of prefix) s turn (ended_of prefix)
fate_is_armed None s turn not_after = refl
fate_is_armed (Some (Cut call fill)) s turn not_after = refl
fate_is_armed (Some (Fail call fill)) s turn not_after = refl
fate_is_armed (Some CutAfter) s turn not_after = absurd (not_false not_after)
  where
    not_false : true ≡ false → ⊥
    not_false e = cc

-- the power goes after the last step: what the last step added is tried, and all of it is kept
pub after_settled : (s : TerminalState) (work : Work) (works : List Work) (outcome : Outcome)
    → (end_whole s (work ∷ works) outcome).state.settled ≡ (end_after s work works).state.settled ++ (end_after s work works).state.tried
after_settled s work [] outcome = refl
after_settled s work (next ∷ works) outcome = after_settled (worked s work) next works outcome

pub after_off : (s : TerminalState) (work : Work) (works : List Work) → (end_after s work works).state.on ≡ false
after_off s work [] = refl
after_off s work (next ∷ works) = after_off (worked s work) next works

pub after_doubt : (s : TerminalState) (work : Work) (works : List Work) → (end_after s work works).doubt ≡ no_doubt (length (end_after s work works).state.tried)
after_doubt s work [] = refl
after_doubt s work (next ∷ works) = after_doubt (worked s work) next works

pub after_outcome : (s : TerminalState) (work : Work) (works : List Work) → (end_after s work works).outcome ≡ WasCut
after_outcome s work [] = refl
after_outcome s work (next ∷ works) = after_outcome (worked s work) next works
