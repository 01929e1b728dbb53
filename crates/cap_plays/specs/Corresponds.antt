-- How the ends of the program stand to those of the model: the entries of an end that is on, what each image that a crash may leave has, and the
-- messages that were sent and count.
use Rattle.std.specs.Prelude.{◌≡◌, ◌⊎◌, ℕ, ◌-◌, Bool, true, false, List, [], ◌∷◌, ◌++◌, length, take, map, Option, Some, None, slice_get, nat_le, ◌==◌, if◌then◌else◌}
use Rattle.cap_msgs.specs.declared.message.Message.{Message}
use Rattle.cap_entries.specs.declared.terminal.TermEntry.{TermEntry}
use Rattle.cap_entries.specs.declared.host.HostEntry.{HostEntry}
use Rattle.cap_ledger.specs.Adding.{calls_for}
use Rattle.cap_schedule.specs.declared.outcome.Outcome.{Outcome}
use Rattle.cap_schedule.specs.declared.outcome.Outcome.TheVariants.{WasCut, DiskFailed, Restarted}
use Rattle.cap_schedule.specs.declared.schedule.End.TheVariants.{Terminal}
use Rattle.cap_schedule.specs.declared.schedule.Prefix.{Prefix}
use Rattle.cap_schedule.specs.declared.schedule.Prefix.TheVariants.{Cut, Fail, CutAfter}
use Rattle.cap_world.specs.World.{TerminalState, HostState}
use Rattle.cap_plays.specs.Turns.{Scene, counted_at, Work, worked, Turn, HostWork, HostTurn}
use Rattle.cap_plays.specs.Plays.{Doubt, no_doubt, MayKeep, in_doubt, interrupted, reopened, left_off, host_interrupted, host_reopened, host_left_off, places_from, Doubts, doubt_at}

-- each of these images has the settled entries, followed by as many of those tried as the doubt leaves open. `has image list` says that opening the
-- image gives the list
abbrev pub Holds : {Entry : Type 0} → (List ℕ → List Entry → Type 0) → (List ℕ → Type 0) → List Entry → List Entry → Doubt → Type 0
Holds has images settled tried doubt = (image : List ℕ) → images image → (kept : ℕ) × MayKeep doubt kept × has image (settled ++ take kept tried)

-- each has this list; each has one of the two; no image has two lists
abbrev pub EachHas : {Entry : Type 0} → (List ℕ → List Entry → Type 0) → (List ℕ → Type 0) → List Entry → Type 0
EachHas has images list = (image : List ℕ) → images image → has image list

abbrev pub EachHasEither : {Entry : Type 0} → (List ℕ → List Entry → Type 0) → (List ℕ → Type 0) → List Entry → List Entry → Type 0
EachHasEither has images before after = (image : List ℕ) → images image → has image before ⊎ has image after

abbrev pub HasOne : {Entry : Type 0} → (List ℕ → List Entry → Type 0) → Type 0
HasOne {Entry} has = (image : List ℕ) (list other : List Entry) → has image list → has image other → other ≡ list

-- an end's disk and object against an end of the model; nothing is tried where it is on
pub record EndCorresponds {Entry : Type 0} (has : List ℕ → List Entry → Type 0) (images : List ℕ → Type 0) (on : Bool) (entries settled tried : List Entry) (is_on : Bool) (doubt : Doubt) : Type 0 where
  pub on_is : on ≡ is_on
  pub entries_are : on ≡ true → entries ≡ settled
  pub none_tried : on ≡ true → tried ≡ []
  pub holds : Holds has images settled tried doubt

-- at these places of all answers stand the answers that count
abbrev pub AreCounted : (all : List Message) → (places : List ℕ) → (answers : List Message) → Type 0
AreCounted all places answers = map (slice_get all) places ≡ map Some answers

-- a terminal of the program, with all that it sent, and the answers that count
pub record TerminalCorresponds (has : List ℕ → List TermEntry → Type 0) (images : List ℕ → Type 0) (on : Bool) (entries : List TermEntry) (sent answers : List Message) (s : TerminalState) (places : List ℕ) (doubt : Doubt) : Type 0 where
  pub end : EndCorresponds has images on entries s.settled s.tried s.on doubt
  pub sent_is : sent ≡ s.sent
  pub answers_are : AreCounted s.answers places answers

-- what becomes of one terminal in a line: its state, what its next opening keeps, and the line's outcome
pub record EndFate : Type 0 where
  pub state : TerminalState
  pub doubt : Doubt
  pub outcome : Outcome

abbrev pub end_whole : TerminalState → List Work → Outcome → EndFate
end_whole s [] outcome = record { state = s; doubt = no_doubt 0; outcome = outcome }
end_whole s (work ∷ works) outcome = end_whole (worked s work) works outcome

abbrev pub end_in : TerminalState → List Work → Outcome → (ended : Outcome) → ℕ → EndFate
end_in s [] outcome ended c = record { state = s; doubt = no_doubt 0; outcome = outcome }
end_in s (work ∷ works) outcome ended c =
    if nat_le c (calls_for work.added)
    then record { state = interrupted s work; doubt = in_doubt work.added; outcome = ended }
    else end_in (worked s work) works outcome ended (c - calls_for work.added)

abbrev pub end_after : TerminalState → Work → List Work → EndFate
end_after s work [] = record { state = interrupted s work; doubt = no_doubt (length work.added); outcome = WasCut }
end_after s work (next ∷ works) = end_after (worked s work) next works

abbrev pub end_cut_after : TerminalState → List Work → EndFate
end_cut_after s [] = record { state = reopened false 0 s; doubt = no_doubt 0; outcome = WasCut }
end_cut_after s (work ∷ works) = end_after s work works

-- by the prefix
abbrev pub end_fate : Option Prefix → TerminalState → Turn → EndFate
end_fate None s turn = end_whole s turn.works turn.outcome
end_fate (Some (Cut call fill)) s turn = end_in s turn.works turn.outcome WasCut call
end_fate (Some (Fail call fill)) s turn = end_in s turn.works turn.outcome DiskFailed call
end_fate (Some CutAfter) s turn = end_cut_after s turn.works

-- what becomes of a terminal that is opened: it is on with what was kept; where a call ends the opening it is off with it; where the first call fails
-- without a cut, nothing is settled
abbrev pub end_opening : Option Prefix → Doubt → ℕ → TerminalState → EndFate
end_opening None old kept s = record { state = reopened true kept s; doubt = no_doubt 0; outcome = Restarted }
end_opening (Some (Cut call fill)) old kept s =
    if nat_le call 2 then record { state = reopened false kept s; doubt = no_doubt 0; outcome = WasCut } else record { state = reopened true kept s; doubt = no_doubt 0; outcome = Restarted }
end_opening (Some (Fail call fill)) old kept s =
    if nat_le call 2
    then (if call == 1 then record { state = left_off s; doubt = old; outcome = DiskFailed } else record { state = reopened false kept s; doubt = no_doubt 0; outcome = DiskFailed })
    else record { state = reopened true kept s; doubt = no_doubt 0; outcome = Restarted }
end_opening (Some CutAfter) old kept s = record { state = reopened false kept s; doubt = no_doubt 0; outcome = WasCut }

-- what becomes of the host in a line: its state, what its next opening keeps, what arrives at which terminal, whether it counts, and the line's outcome
pub record HostFate : Type 0 where
  pub state : HostState
  pub doubt : Doubt
  pub receiver : ℕ
  pub replies : List Message
  pub counts : Bool
  pub outcome : Outcome

abbrev pub host_stays : HostState → Doubt → Outcome → HostFate
host_stays host doubt outcome = record { state = host; doubt = doubt; receiver = 0; replies = []; counts = false; outcome = outcome }

abbrev pub host_whole : HostState → Option HostWork → Outcome → HostFate
host_whole host None outcome = host_stays host (no_doubt 0) outcome
host_whole host (Some work) outcome = record {
  state = record { settled = host.settled ++ work.added; tried = []; on = true };
  doubt = no_doubt 0;
  receiver = work.receiver;
  replies = work.replies;
  counts = work.counts;
  outcome = outcome;
}

abbrev pub host_in : HostState → Option HostWork → Outcome → (ended : Outcome) → ℕ → HostFate
host_in host None outcome ended c = host_whole host None outcome
host_in host (Some work) outcome ended c =
    if nat_le c (calls_for work.added) then host_stays (host_interrupted host work) (in_doubt work.added) ended
    else host_whole host (Some work) outcome

abbrev pub host_cut_after : HostState → Option HostWork → HostFate
host_cut_after host None = host_stays (host_reopened false 0 host) (no_doubt 0) WasCut
host_cut_after host (Some work) = host_stays (host_interrupted host work) (no_doubt (length work.added)) WasCut

abbrev pub host_fate : Option Prefix → HostState → HostTurn → HostFate
host_fate None host turn = host_whole host turn.work turn.outcome
host_fate (Some (Cut call fill)) host turn = host_in host turn.work turn.outcome WasCut call
host_fate (Some (Fail call fill)) host turn = host_in host turn.work turn.outcome DiskFailed call
host_fate (Some CutAfter) host turn = host_cut_after host turn.work

-- the same for the host's opening
abbrev pub host_opening : Option Prefix → Doubt → ℕ → HostState → HostFate
host_opening None old kept host = host_stays (host_reopened true kept host) (no_doubt 0) Restarted
host_opening (Some (Cut call fill)) old kept host =
    if nat_le call 2 then host_stays (host_reopened false kept host) (no_doubt 0) WasCut else host_stays (host_reopened true kept host) (no_doubt 0) Restarted
host_opening (Some (Fail call fill)) old kept host =
    if nat_le call 2
    then (if call == 1 then host_stays (host_left_off host) old DiskFailed else host_stays (host_reopened false kept host) (no_doubt 0) DiskFailed)
    else host_stays (host_reopened true kept host) (no_doubt 0) Restarted
host_opening (Some CutAfter) old kept host = host_stays (host_reopened false kept host) (no_doubt 0) WasCut

-- a terminal where messages arrived, and the places of its answers that count after that
abbrev pub answered : TerminalState → List Message → TerminalState
answered s messages = record { settled = s.settled; tried = s.tried; on = s.on; sent = s.sent; answers = s.answers ++ messages }

abbrev pub places_after : List ℕ → TerminalState → List Message → Bool → List ℕ
places_after places s messages counts = if counts then places ++ places_from (length s.answers) messages else places

-- the ends of a network against a scene, by what says it of one end
pub record NetworkCorresponds {T H : Type 0} (of_terminal : T → TerminalState → List ℕ → Doubt → Type 0) (of_host : H → HostState → Doubt → Type 0) (host : H) (terminals : List T) (w : Scene) (doubts : Doubts) : Type 0 where
  pub host_is : of_host host w.host doubts.host
  pub same : length terminals ≡ length w.terminals
  pub same_counted : length w.counted ≡ length w.terminals
  pub same_doubts : length doubts.terminals ≡ length w.terminals
  pub each : (place : ℕ) (t : T) (s : TerminalState) → slice_get terminals place ≡ Some t → slice_get w.terminals place ≡ Some s
      → of_terminal t s (counted_at w.counted place) (doubt_at doubts (Terminal place))

-- every image of each disk has exactly the entries of its end
pub record DisksHave {T H : Type 0} (terminal_has : T → List TermEntry → Type 0) (host_has : H → List HostEntry → Type 0) (host : H) (terminals : List T) (w : Scene) : Type 0 where
  pub host_is : host_has host w.host.settled
  pub same : length terminals ≡ length w.terminals
  pub each : (place : ℕ) (t : T) (s : TerminalState) → slice_get terminals place ≡ Some t → slice_get w.terminals place ≡ Some s → terminal_has t s.settled
