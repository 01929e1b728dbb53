-- The laws of schedules: what they name is a run, in which the ends agree; without faults it is one run; and at its end every end is on.
use Rattle.std.specs.Prelude.{◌≡◌, ◌⊎◌, ⊤, ℕ, ◌≤◌, true, List, length, Option, Some, slice_get}
use Rattle.std.specs.List.{AllByRecursion}
use Rattle.std.proofs.Common.{refl, sym, subst, inl, inr}
use Rattle.cap_base.specs.declared.codes.DataSet.{DataSet}
use Rattle.cap_base.specs.declared.codes.DataSet.TheVariants.{Aqpr, Mgtp}
use Rattle.cap_terminal_answers.specs.Sends.{may_be_wanted}
use Rattle.cap_leaf.specs.Date.{DateParts}
use Rattle.cap_msgs.specs.Received.{Received}
use Rattle.cap_entries.specs.declared.terminal.TermEntry.{TermEntry}
use Rattle.cap_entries.specs.declared.host.HostEntry.{HostEntry}
use Rattle.cap_entries.specs.Items.{items}
use Rattle.cap_entries.specs.Log.{log}
use Rattle.cap_plain.specs.Agreed.{Agreed}
use Rattle.cap_schedule.specs.declared.schedule.Prefix.{Prefix}
use Rattle.cap_schedule.specs.declared.schedule.Prefix.TheVariants.{Cut, Fail}
use Rattle.cap_schedule.specs.declared.schedule.Line.{Line}
use Rattle.cap_schedule.specs.declared.schedule.Schedule.{Schedule}
use Rattle.cap_schedule.specs.Matching.{Matching}
use Rattle.cap_schedule.specs.Ranges as Ranges
use Rattle.cap_schedule.specs.Nobodys.{NoiseIsNobodys}
use Rattle.cap_world.specs.World.{TerminalState, World, Happening, first, Run, May}
use Rattle.cap_plays.specs.Turns.{Scene, world_of}
use Rattle.cap_plays.specs.Report.{report}
use Rattle.cap_plays.specs.Plays.{Played, Does, least_play, AreDates}

-- what a status report of a schedule asks for, a terminal may ask for
pub wanted_in_range : (wanted : DataSet) → (wanted ≡ Aqpr) ⊎ (wanted ≡ Mgtp) → may_be_wanted wanted ≡ true
wanted_in_range wanted (inl is) = subst (λ d. may_be_wanted d ≡ true) (sym is) refl
wanted_in_range wanted (inr is) = subst (λ d. may_be_wanted d ≡ true) (sym is) refl

-- the set-ups of a schedule name each other and keep their rules, and its lines are in range
pub record InRange (s : Schedule) : Type 0 where
  pub set_ups : Matching s
  pub lines : Ranges.InRange s

abbrev pub first_world : Schedule → World
first_world s = first s.host s.terminals

-- some steps lead from the first world of a schedule to this scene
abbrev pub IsReached : Schedule → Scene → Type 0
IsReached s w = (happenings : List Happening) × Run (first_world s) happenings (world_of w)

abbrev pub EveryPlayIsARun : Type 0
EveryPlayIsARun =
    (reads : List ℕ → Received) (s : Schedule) (played : Played)
    → InRange s → NoiseIsNobodys reads s → Does reads s played → Run (first_world s) played.happenings (world_of played.last)

-- the ends agree in a world: for each terminal, whatever a power cut may have left at either end
abbrev pub EndsAgree : World → Type 0
EndsAgree w =
    (place : ℕ) (s : TerminalState) → slice_get w.terminals place ≡ Some s
    → (entries : List TermEntry) → May s.settled s.tried entries
    → (others : List HostEntry) → May w.host.settled w.host.tried others
    → Agreed entries (log others place)

abbrev pub EveryPlayAgrees : Type 0
EveryPlayAgrees =
    (reads : List ℕ → Received) (s : Schedule) (played : Played)
    → InRange s → NoiseIsNobodys reads s → Does reads s played → EndsAgree (world_of played.last)

-- no device call of a line is cut or fails
abbrev pub IsWhole : Option Prefix → Type 0
IsWhole (Some (Cut call fill)) = ⊥
IsWhole (Some (Fail call fill)) = ⊥
IsWhole _ = ⊤

-- a schedule without cuts and faults at device calls names exactly one run, once each line's moment has its date and time
abbrev pub OnePlayWithoutFaults : Type 0
OnePlayWithoutFaults =
    (reads : List ℕ → Received) (s : Schedule) → AllByRecursion (λ (line : Line). IsWhole line.prefix) s.lines
    → ((dates : List DateParts) → AreDates s.lines dates → Does reads s (least_play reads dates s))
    × ((played : Played) → Does reads s played → (dates : List DateParts) × AreDates s.lines dates × (played ≡ least_play reads dates s))

-- two plays make the same steps, with the same outcomes, and have one text
pub record SameButForDates (s : Schedule) (played other : Played) : Type 0 where
  pub happenings : played.happenings ≡ other.happenings
  pub outcomes : played.outcomes ≡ other.outcomes
  pub text : report s played ≡ report s other

-- whatever dates and times its messages bear, a schedule without cuts and faults at device calls has one text
abbrev pub OneTextWithoutFaults : Type 0
OneTextWithoutFaults =
    (reads : List ℕ → Received) (s : Schedule) (played other : Played) → AllByRecursion (λ (line : Line). IsWhole line.prefix) s.lines
    → Does reads s played → Does reads s other → SameButForDates s played other

-- after a play every end is on
pub record AllOn (w : Scene) : Type 0 where
  pub host : w.host.on ≡ true
  pub terminals : (place : ℕ) (s : TerminalState) → slice_get w.terminals place ≡ Some s → s.on ≡ true

-- where the report says of a terminal that it agrees, the host's log of it is its list of items
abbrev pub VerdictsHold : Scene → Type 0
VerdictsHold w =
    (place : ℕ) (s : TerminalState) → slice_get w.terminals place ≡ Some s
    → length (items s.settled) ≤ length (log w.host.settled place) → log w.host.settled place ≡ items s.settled

-- what was run: a play of the schedule, which is a run of the model from its set-ups. In its last world the ends agree, and every end is on
pub record IsRun (reads : List ℕ → Received) (s : Schedule) (played : Played) : Type 0 where
  pub set_ups : Matching s
  pub does : Does reads s played
  pub steps : Run (first_world s) played.happenings (world_of played.last)
  pub agrees : EndsAgree (world_of played.last)
  pub verdicts : VerdictsHold played.last
  pub all_on : AllOn played.last

abbrev pub EveryPlayEndsOn : Type 0
EveryPlayEndsOn = (reads : List ℕ → Received) (s : Schedule) (played : Played) → Does reads s played → AllOn played.last
