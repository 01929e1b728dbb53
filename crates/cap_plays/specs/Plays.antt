-- What a schedule's lines do, with the prefixes that cut the power or fail a device call, and the runs that a schedule names.
use Rattle.std.specs.Prelude.{◌≡◌, ◌⊎◌, ℕ, zero, suc, ◌+◌, ◌-◌, Bool, true, false, nat_le, ◌==◌, if◌then◌else◌, List, [], ◌∷◌, ◌++◌, length, take, map, Option, Some, None, slice_get, slice_set}
use Rattle.cap_leaf.specs.Date.{DateParts}
use Rattle.cap_msgs.specs.declared.message.Message.{Message}
use Rattle.cap_msgs.specs.Received.{Received}
use Rattle.cap_msgs.specs.Moment.{IsMoment}
use Rattle.cap_entries.specs.Settings.{TerminalSettings}
use Rattle.cap_ledger.specs.Adding.{calls_for}
use Rattle.cap_schedule.specs.declared.outcome.Outcome.{Outcome}
use Rattle.cap_schedule.specs.declared.outcome.Outcome.TheVariants.{IsOff, WasCut, DiskFailed, Restarted}
use Rattle.cap_schedule.specs.declared.schedule.End.{End}
use Rattle.cap_schedule.specs.declared.schedule.End.TheVariants.{Host, Terminal}
use Rattle.cap_schedule.specs.declared.schedule.Prefix.{Prefix}
use Rattle.cap_schedule.specs.declared.schedule.Prefix.TheVariants.{Cut, Fail, CutAfter}
use Rattle.cap_schedule.specs.declared.schedule.Action.{Action}
use Rattle.cap_schedule.specs.declared.schedule.Action.TheVariants.{AtTerminal, AtHost, Reopen}
use Rattle.cap_schedule.specs.declared.schedule.Line.{Line}
use Rattle.cap_schedule.specs.declared.schedule.Schedule.{Schedule}
use Rattle.cap_answering.specs.Steps.{Acts, Interrupted, Restart, Interrupted_restart}
use Rattle.cap_world.specs.World.{TerminalState, HostState, Happening, At_terminal, At_host, delivered, started}
use Rattle.cap_entries.specs.declared.host.HostEntry.TheVariants.{Setup}
use Rattle.cap_plays.specs.Turns.{Scene, counted_at, Work, Turn, worked, turn_of, HostWork, HostTurn, host_turn_of}

-- what the next opening keeps of the entries tried: the first so many of them, by one of two numbers
pub record Doubt : Type 0 where
  pub least : ℕ
  pub most : ℕ

abbrev pub no_doubt : ℕ → Doubt
no_doubt n = record { least = n; most = n }

abbrev pub MayKeep : Doubt → ℕ → Type 0
MayKeep doubt kept = (kept ≡ doubt.least) ⊎ (kept ≡ doubt.most)

-- a step adds its entries as one group of four device calls: where one of these ends it, the next opening keeps none of them or all
abbrev pub in_doubt : {Entry : Type 0} → List Entry → Doubt
in_doubt added = record { least = 0; most = length added }

-- a step that a line makes, the scene after it, its device calls, and what becomes of it where one of these ends the line
pub record Made : Type 0 where
  pub step : Happening
  pub whole : Scene
  pub calls : ℕ
  -- the same where it is interrupted: in a device call, or after all of them
  pub broken : Happening
  pub torn : Scene
  pub doubt : Doubt
  pub all : ℕ

-- the states of an end after a step, whole or interrupted
abbrev pub interrupted : TerminalState → Work → TerminalState
interrupted s work = record { settled = s.settled; tried = work.added; on = false; sent = s.sent; answers = s.answers }

abbrev pub reopened : Bool → ℕ → TerminalState → TerminalState
reopened on kept s = record { settled = s.settled ++ take kept s.tried; tried = []; on = on; sent = s.sent; answers = s.answers }

abbrev pub left_off : TerminalState → TerminalState
left_off s = record { settled = s.settled; tried = s.tried; on = false; sent = s.sent; answers = s.answers }

abbrev pub host_interrupted : HostState → HostWork → HostState
host_interrupted host work = record { settled = host.settled; tried = work.added; on = false }

abbrev pub host_reopened : Bool → ℕ → HostState → HostState
host_reopened on kept host = record { settled = host.settled ++ take kept host.tried; tried = []; on = on }

abbrev pub host_left_off : HostState → HostState
host_left_off host = record { settled = host.settled; tried = host.tried; on = false }

abbrev pub with_host : Scene → HostState → Scene
with_host w host = record { host = host; terminals = w.terminals; counted = w.counted }

abbrev pub with_terminal : Scene → ℕ → TerminalState → Scene
with_terminal w place s = record { host = w.host; terminals = slice_set w.terminals place s; counted = w.counted }

-- the places of so many messages behind so many
abbrev pub places_from : ℕ → List Message → List ℕ
places_from place [] = []
places_from place (message ∷ messages) = place ∷ places_from (suc place) messages

-- the messages that arrive at a terminal count
abbrev pub noted : List (List ℕ) → List TerminalState → (receiver : ℕ) → List Message → List (List ℕ)
noted [] terminals receiver messages = []
noted (places ∷ counted) [] receiver messages = places ∷ counted
noted (places ∷ counted) (s ∷ terminals) zero messages = (places ++ places_from (length s.answers) messages) ∷ counted
noted (places ∷ counted) (s ∷ terminals) (suc receiver) messages = places ∷ noted counted terminals receiver messages

-- messages arrive at a terminal, and count or not
abbrev pub arrived : Scene → HostState → (receiver : ℕ) → List Message → (counts : Bool) → Scene
arrived w host receiver messages counts = record {
  host = host;
  terminals = delivered w.terminals receiver messages;
  counted = if counts then noted w.counted w.terminals receiver messages else w.counted;
}

abbrev pub host_worked : Scene → HostWork → Scene
host_worked w work = arrived w (record { settled = w.host.settled ++ work.added; tried = []; on = true }) work.receiver work.replies work.counts

-- a step of a terminal
abbrev pub made : Scene → ℕ → TerminalState → Work → Made
made w place s work = record {
  step = At_terminal place (Acts work.action);
  whole = with_terminal w place (worked s work);
  calls = calls_for work.added;
  broken = At_terminal place (Interrupted work.action);
  torn = with_terminal w place (interrupted s work);
  doubt = in_doubt work.added;
  all = length work.added;
}

-- the steps of a terminal, one after the other
abbrev pub all_made : Scene → ℕ → TerminalState → List Work → List Made
all_made w place s [] = []
all_made w place s (work ∷ works) = made w place s work ∷ all_made (with_terminal w place (worked s work)) place (worked s work) works

-- the step of the host
abbrev pub host_made : Scene → Option HostWork → List Made
host_made w None = []
host_made w (Some work) = record {
  step = At_host (Acts work.action);
  whole = host_worked w work;
  calls = calls_for work.added;
  broken = At_host (Interrupted work.action);
  torn = with_host w (host_interrupted w.host work);
  doubt = in_doubt work.added;
  all = length work.added;
} ∷ []

-- An opening that keeps so many of the entries tried makes two device calls. Where one of them ends it, it keeps them too; but where the first one
-- fails without a cut, what was tried stays tried.
abbrev pub opens : Scene → Doubt → (stays : Bool) → (kept place : ℕ) → TerminalState → Made
opens w old stays kept place s = record {
  step = At_terminal place (Restart kept);
  whole = with_terminal w place (reopened true kept s);
  calls = 2;
  broken = At_terminal place (Interrupted_restart (if stays then None else Some kept));
  torn = with_terminal w place (if stays then left_off s else reopened false kept s);
  doubt = if stays then old else no_doubt 0;
  all = 0;
}

abbrev pub host_opens : Scene → Doubt → (stays : Bool) → (kept : ℕ) → Made
host_opens w old stays kept = record {
  step = At_host (Restart kept);
  whole = with_host w (host_reopened true kept w.host);
  calls = 2;
  broken = At_host (Interrupted_restart (if stays then None else Some kept));
  torn = with_host w (if stays then host_left_off w.host else host_reopened false kept w.host);
  doubt = if stays then old else no_doubt 0;
  all = 0;
}

-- what a line makes where nothing ends it: its steps and its outcome
pub record Plan : Type 0 where
  pub steps : List Made
  pub outcome : Outcome

-- an end is on
abbrev pub terminal_is_on : Option TerminalState → Bool
terminal_is_on None = false
terminal_is_on (Some s) = s.on

abbrev pub is_on : Scene → End → Bool
is_on w Host = w.host.on
is_on w (Terminal place) = terminal_is_on (slice_get w.terminals place)

abbrev pub terminal_plan : Option TerminalState → (TerminalState → Plan) → Plan
terminal_plan None plan = record { steps = []; outcome = IsOff }
terminal_plan (Some s) plan = plan s

-- the first call fails without a cut
abbrev pub fails_first : Option Prefix → Bool
fails_first (Some (Fail call fill)) = call == 1
fails_first _ = false

-- the moment of a line, in seconds since 1970
abbrev pub moment_of : ℕ → ℕ
moment_of number = 1700000000 + number

abbrev pub plan_of_turn : Scene → ℕ → TerminalState → Turn → Plan
plan_of_turn w place s turn = record { steps = all_made w place s turn.works; outcome = turn.outcome }

abbrev pub plan_of_host_turn : Scene → HostTurn → Plan
plan_of_host_turn w turn = record { steps = host_made w turn.work; outcome = turn.outcome }

abbrev pub plan_of_opening : Made → Plan
plan_of_opening m = record { steps = m ∷ []; outcome = Restarted }

-- by the action, at an end that is on, or off where it is opened again
abbrev pub plan : (reads : List ℕ → Received) → Scene → Doubt → (kept : ℕ) → Option Prefix → (number : ℕ) → DateParts → Action → Plan
plan reads w old kept prefix number created (AtTerminal place order) =
    terminal_plan (slice_get w.terminals place) (λ s. plan_of_turn w place s (turn_of reads s (counted_at w.counted place) (moment_of number) created order))
plan reads w old kept prefix number created (AtHost order) = plan_of_host_turn w (host_turn_of reads w (moment_of number) created order)
plan reads w old kept prefix number created (Reopen (Terminal place)) =
    terminal_plan (slice_get w.terminals place) (λ s. plan_of_opening (opens w old (fails_first prefix) kept place s))
plan reads w old kept prefix number created (Reopen Host) = plan_of_opening (host_opens w old (fails_first prefix) kept)

-- the end at which an action acts
abbrev pub acting : Action → End
acting (AtTerminal place order) = Terminal place
acting (AtHost order) = Host
acting (Reopen end) = end

-- what becomes of a line: its steps, the scene after them, its outcome, and what the next opening keeps where the line was ended
pub record Fate : Type 0 where
  pub happenings : List Happening
  pub scene : Scene
  pub outcome : Outcome
  pub doubt : Doubt

abbrev pub fate_behind : Happening → Fate → Fate
fate_behind happening fate = record { happenings = happening ∷ fate.happenings; scene = fate.scene; outcome = fate.outcome; doubt = fate.doubt }

-- no prefix ends the line
abbrev pub fate_whole : Scene → List Made → Outcome → Fate
fate_whole w [] outcome = record { happenings = []; scene = w; outcome = outcome; doubt = no_doubt 0 }
fate_whole w (m ∷ made) outcome = fate_behind m.step (fate_whole m.whole made outcome)

abbrev pub fate_broken : Made → Doubt → Outcome → Fate
fate_broken m doubt outcome = record { happenings = m.broken ∷ []; scene = m.torn; outcome = outcome; doubt = doubt }

-- call c of the line ends it, where the line makes so many calls
abbrev pub fate_in : Scene → List Made → Outcome → (ended : Outcome) → ℕ → Fate
fate_in w [] outcome ended c = record { happenings = []; scene = w; outcome = outcome; doubt = no_doubt 0 }
fate_in w (m ∷ made) outcome ended c =
    if nat_le c m.calls then fate_broken m m.doubt ended else fate_behind m.step (fate_in m.whole made outcome ended (c - m.calls))

-- the power goes after the line's last step: the next opening keeps all
abbrev pub fate_after : Made → List Made → Fate
fate_after m [] = fate_broken m (no_doubt m.all) WasCut
fate_after m (next ∷ made) = fate_behind m.step (fate_after next made)

-- an end goes off in a line that makes no step
abbrev pub terminal_off : Scene → ℕ → Option TerminalState → Fate
terminal_off w place None = record { happenings = []; scene = w; outcome = WasCut; doubt = no_doubt 0 }
terminal_off w place (Some s) = record {
  happenings = At_terminal place (Interrupted_restart (Some 0)) ∷ [];
  scene = with_terminal w place (reopened false 0 s);
  outcome = WasCut;
  doubt = no_doubt 0;
}

abbrev pub off_at : Scene → End → Fate
off_at w Host = record {
  happenings = At_host (Interrupted_restart (Some 0)) ∷ [];
  scene = with_host w (host_reopened false 0 w.host);
  outcome = WasCut;
  doubt = no_doubt 0;
}
off_at w (Terminal place) = terminal_off w place (slice_get w.terminals place)

abbrev pub fate_cut_after : Scene → End → List Made → Fate
fate_cut_after w end [] = off_at w end
fate_cut_after w end (m ∷ made) = fate_after m made

-- by the prefix
abbrev pub fate_of : Option Prefix → Scene → End → Plan → Fate
fate_of None w end plan = fate_whole w plan.steps plan.outcome
fate_of (Some (Cut call fill)) w end plan = fate_in w plan.steps plan.outcome WasCut call
fate_of (Some (Fail call fill)) w end plan = fate_in w plan.steps plan.outcome DiskFailed call
fate_of (Some CutAfter) w end plan = fate_cut_after w end plan.steps

-- the line is passed over: its end is off
abbrev pub passed : Scene → Doubt → Fate
passed w old = record { happenings = []; scene = w; outcome = IsOff; doubt = old }

-- an end that is off can only be opened again
abbrev pub is_possible : Scene → Action → Bool
is_possible w (AtTerminal place order) = is_on w (Terminal place)
is_possible w (AtHost order) = is_on w Host
is_possible w (Reopen end) = true

abbrev pub fate : (reads : List ℕ → Received) → Scene → Doubt → (kept : ℕ) → DateParts → Line → Fate
fate reads w old kept created line =
    if is_possible w line.action
    then fate_of line.prefix w (acting line.action) (plan reads w old kept line.prefix line.number created line.action)
    else passed w old

-- what the next opening of each end keeps
pub record Doubts : Type 0 where
  pub host : Doubt
  pub terminals : List Doubt

abbrev pub doubt_or_none : Option Doubt → Doubt
doubt_or_none None = no_doubt 0
doubt_or_none (Some doubt) = doubt

abbrev pub doubt_at : Doubts → End → Doubt
doubt_at doubts Host = doubts.host
doubt_at doubts (Terminal place) = doubt_or_none (slice_get doubts.terminals place)

abbrev pub with_doubt : Doubts → End → Doubt → Doubts
with_doubt doubts Host doubt = record { host = doubt; terminals = doubts.terminals }
with_doubt doubts (Terminal place) doubt = record { host = doubts.host; terminals = slice_set doubts.terminals place doubt }

-- a run of a schedule, and the outcomes of its lines
pub record Played : Type 0 where
  pub happenings : List Happening
  pub outcomes : List Outcome
  pub last : Scene

abbrev pub nothing_played : Scene → Played
nothing_played w = record { happenings = []; outcomes = []; last = w }

abbrev pub play_behind : Fate → Played → Played
play_behind fate more = record { happenings = fate.happenings ++ more.happenings; outcomes = fate.outcome ∷ more.outcomes; last = more.last }

-- an end that is off is opened again, without a line
abbrev pub opening_plan : Scene → Doubt → (kept : ℕ) → End → Plan
opening_plan w old kept Host = plan_of_opening (host_opens w old false kept)
opening_plan w old kept (Terminal place) = terminal_plan (slice_get w.terminals place) (λ s. plan_of_opening (opens w old false kept place s))

abbrev pub closing_fate : Scene → Doubt → (kept : ℕ) → End → Fate
closing_fate w old kept end = if is_on w end then passed w old else fate_whole w (opening_plan w old kept end).steps Restarted

abbrev pub silently_behind : Fate → Played → Played
silently_behind fate more = record { happenings = fate.happenings ++ more.happenings; outcomes = more.outcomes; last = more.last }

abbrev pub terminals_from : ℕ → List TerminalState → List End
terminals_from place [] = []
terminals_from place (s ∷ terminals) = Terminal place ∷ terminals_from (suc place) terminals

abbrev pub ends_of : Scene → List End
ends_of w = Host ∷ terminals_from 0 w.terminals

-- at the end each end that is off is opened again
abbrev pub Reopens : List End → Scene → Doubts → Played → Type 0
Reopens [] w doubts played = played ≡ nothing_played w
Reopens (end ∷ ends) w doubts played =
    (kept : ℕ) × (more : Played) × MayKeep (doubt_at doubts end) kept
    × Reopens ends (closing_fate w (doubt_at doubts end) kept end).scene doubts more
    × (played ≡ silently_behind (closing_fate w (doubt_at doubts end) kept end) more)

-- the lines, one after the other, each at its moment
abbrev pub Plays : (reads : List ℕ → Received) → List Line → Scene → Doubts → Played → Type 0
Plays reads [] w doubts played = Reopens (ends_of w) w doubts played
Plays reads (line ∷ lines) w doubts played =
    (created : DateParts) × (kept : ℕ) × (more : Played)
    × IsMoment (moment_of line.number) created × MayKeep (doubt_at doubts (acting line.action)) kept
    × Plays reads lines (fate reads w (doubt_at doubts (acting line.action)) kept created line).scene
    (with_doubt doubts (acting line.action) (fate reads w (doubt_at doubts (acting line.action)) kept created line).doubt) more
    × (played ≡ play_behind (fate reads w (doubt_at doubts (acting line.action)) kept created line) more)

-- the first scene: each end is set up by its line, and nothing was sent
abbrev pub first_scene : Schedule → Scene
first_scene s = record {
  host = record { settled = Setup s.host ∷ []; tried = []; on = true };
  terminals = map started s.terminals;
  counted = map (λ (t : TerminalSettings). []) s.terminals;
}

abbrev pub first_doubts : Schedule → Doubts
first_doubts s = record { host = no_doubt 0; terminals = map (λ (t : TerminalSettings). no_doubt 0) s.terminals }

-- the schedule names this run
abbrev pub Does : (reads : List ℕ → Received) → Schedule → Played → Type 0
Does reads s played = Plays reads s.lines (first_scene s) (first_doubts s) played

-- these dates show the moments of these lines
abbrev pub AreDates : List Line → List DateParts → Type 0
AreDates [] dates = dates ≡ []
AreDates (line ∷ lines) dates = (created : DateParts) × (more : List DateParts) × IsMoment (moment_of line.number) created × AreDates lines more × (dates ≡ created ∷ more)

-- the play in which each opening keeps the lesser number, and the lines have these dates
abbrev pub reopen_least : List End → Scene → Doubts → Played
reopen_least [] w doubts = nothing_played w
reopen_least (end ∷ ends) w doubts =
    silently_behind (closing_fate w (doubt_at doubts end) (doubt_at doubts end).least end)
    (reopen_least ends (closing_fate w (doubt_at doubts end) (doubt_at doubts end).least end).scene doubts)

abbrev pub play_least : (reads : List ℕ → Received) → List Line → List DateParts → Scene → Doubts → Played
play_least reads [] dates w doubts = reopen_least (ends_of w) w doubts
play_least reads (line ∷ lines) [] w doubts = nothing_played w
play_least reads (line ∷ lines) (created ∷ dates) w doubts =
    play_behind (fate reads w (doubt_at doubts (acting line.action)) (doubt_at doubts (acting line.action)).least created line)
    (play_least reads lines dates (fate reads w (doubt_at doubts (acting line.action)) (doubt_at doubts (acting line.action)).least created line).scene
    (with_doubt doubts (acting line.action) (fate reads w (doubt_at doubts (acting line.action)) (doubt_at doubts (acting line.action)).least created line).doubt))

abbrev pub least_play : (reads : List ℕ → Received) → List DateParts → Schedule → Played
least_play reads dates s = play_least reads s.lines dates (first_scene s) (first_doubts s)
