-- One end's work on whatever arrives, and the merged work of the ends over a network.
use Rattle.std.specs.Prelude.{◌≡◌, ◌⊎◌, ℕ, ◌+◌, ◌<◌, true, false, List, [], ◌∷◌, ◌++◌, length, Some, slice_get, slice_set}
use Rattle.cap_base.specs.declared.parameters.Row.{Row}
use Rattle.cap_msgs.specs.declared.message.Message.{Message}
use Rattle.cap_msgs.specs.Received.{Received, Read, Unread}
use Rattle.cap_entries.specs.Settings.{TerminalSettings, HostSettings}
use Rattle.cap_entries.specs.declared.terminal.TermEntry.{TermEntry}
use Rattle.cap_entries.specs.declared.host.HostEntry.{HostEntry}
use Rattle.cap_entries.specs.declared.host.HostEntry.TheVariants.{Published}
use Rattle.cap_entries.specs.Log.{published}
use Rattle.cap_host_answers.specs.Received.{answer_received, Replies, place_named, IsForeign}
use Rattle.cap_terminal_answers.specs.Takes.{takes, IsNotOurs}
use Rattle.cap_terminal_answers.specs.Does.{Decision, Decides}
use Rattle.cap_answering.specs.Steps.{Event, Acts, Interrupted, Restart, Interrupted_restart}
use Rattle.cap_world.specs.World.{TerminalState, World, TerminalAction, Takes_answer, Hears_foreign, TerminalDoes, TerminalStep, HostStep, delivered, Happening, first, Run}
use Rattle.cap_entries.specs.SetUps.{SetUpsMatch}

-- a terminal at work: its own actions, and what arrives, whatever it is
pub data TerminalTask : Type 0 where
  Does_own : TerminalAction → TerminalTask
  Takes_received : Received → Decision → TerminalTask

abbrev pub IsOwnTask : TerminalAction → Type 0
IsOwnTask (Takes_answer which decision) = ⊥
IsOwnTask (Hears_foreign received) = ⊥
IsOwnTask _ = Unit {0}

-- a terminal with this journal
abbrev pub terminal_with : List TermEntry → TerminalState
terminal_with entries = record { settled = entries; tried = []; on = true; sent = []; answers = [] }

-- what it adds and puts on the link, by its own journal and what its bytes read as
abbrev pub TerminalTasks : List TermEntry → TerminalTask → List TermEntry → List Message → Type 0
TerminalTasks entries (Does_own action) added put = IsOwnTask action × TerminalDoes (terminal_with entries) action added put
TerminalTasks entries (Takes_received received decision) added put =
    (decided : List TermEntry) × Decides entries (takes entries received).answer decision decided
    × (added ≡ (takes entries received).added ++ decided) × (put ≡ [])

-- a host at work: whatever arrives, and a set
pub data HostTask : Type 0 where
  Answers_received : Received → (moment : ℕ) → HostTask
  Adds_set : List Row → HostTask

abbrev pub HostTasks : List HostEntry → HostTask → List HostEntry → (receiver : ℕ) → List Message → Type 0
HostTasks entries (Answers_received received moment) added receiver put =
    (added ≡ (answer_received entries received).added)
    × (receiver ≡ place_named entries received)
    × Replies entries moment received (answer_received entries received).reply put
HostTasks entries (Adds_set rows) added receiver put =
    (length (published entries) < 10000) × (added ≡ Published (length (published entries) + 1) rows ∷ []) × (put ≡ [])

-- it is one of these messages
abbrev pub IsOneOf : List Message → Received → Type 0
IsOneOf messages (Unread fault) = ⊥
IsOneOf messages (Read message) = (which : ℕ) × (slice_get messages which ≡ Some message)

-- the network brings what was sent, or what isn't from the host to this terminal
abbrev pub TerminalIsBrought : TerminalState → TerminalTask → Type 0
TerminalIsBrought s (Does_own action) = Unit {0}
TerminalIsBrought s (Takes_received received decision) = IsOneOf s.answers received ⊎ IsNotOurs s.settled received

-- and to the host what a terminal sent, or what isn't from a terminal of its set-up to it
abbrev pub HostIsBrought : World → HostTask → Type 0
HostIsBrought w (Adds_set rows) = Unit {0}
HostIsBrought w (Answers_received received moment) =
    ((terminal : ℕ) × (s : TerminalState) × (slice_get w.terminals terminal ≡ Some s) × IsOneOf s.sent received)
    ⊎ IsForeign w.host.settled received

abbrev pub TerminalDoing : TerminalState → Event TerminalTask → TerminalState → Type 0
TerminalDoing s (Acts task) new =
    (added : List TermEntry) × (put : List Message) × (s.on ≡ true) × TerminalIsBrought s task × TerminalTasks s.settled task added put
    × (new ≡ record { settled = s.settled ++ added; tried = []; on = true; sent = s.sent ++ put; answers = s.answers })
TerminalDoing s (Interrupted task) new =
    (added : List TermEntry) × (put : List Message) × (s.on ≡ true) × TerminalIsBrought s task × TerminalTasks s.settled task added put
    × (new ≡ record { settled = s.settled; tried = added; on = false; sent = s.sent; answers = s.answers })
TerminalDoing s (Restart kept) new = TerminalStep s (Restart kept) new
TerminalDoing s (Interrupted_restart kept) new = TerminalStep s (Interrupted_restart kept) new

abbrev pub HostDoing : World → Event HostTask → World → Type 0
HostDoing w (Acts task) new =
    (added : List HostEntry) × (receiver : ℕ) × (put : List Message)
    × (w.host.on ≡ true) × HostIsBrought w task × HostTasks w.host.settled task added receiver put
    × (new ≡ record {
      host = record { settled = w.host.settled ++ added; tried = []; on = true };
      terminals = delivered w.terminals receiver put;
    })
HostDoing w (Interrupted task) new =
    (added : List HostEntry) × (receiver : ℕ) × (put : List Message)
    × (w.host.on ≡ true) × HostIsBrought w task × HostTasks w.host.settled task added receiver put
    × (new ≡ record { host = record { settled = w.host.settled; tried = added; on = false }; terminals = w.terminals })
HostDoing w (Restart kept) new = HostStep w (Restart kept) new
HostDoing w (Interrupted_restart kept) new = HostStep w (Interrupted_restart kept) new

-- the work of the ends, merged: each message taken was put earlier by its sender, stood there before, or is foreign
pub data Doing : Type 0 where
  By_terminal : (place : ℕ) → Event TerminalTask → Doing
  By_host : Event HostTask → Doing

abbrev pub MergedBytes : World → List Doing → World → Type 0
MergedBytes w [] new = new ≡ w
MergedBytes w (By_terminal place event ∷ doings) new =
    (before : TerminalState) × (after : TerminalState) × (slice_get w.terminals place ≡ Some before)
    × TerminalDoing before event after
    × MergedBytes (record { host = w.host; terminals = slice_set w.terminals place after }) doings new
MergedBytes w (By_host event ∷ doings) new = (next : World) × HostDoing w event next × MergedBytes next doings new

-- from any world of a run, merged work over bytes leads through worlds of a run
abbrev pub MergedBytesAreARun : Type 0
MergedBytesAreARun =
    (host : HostSettings) (terminals : List TerminalSettings) (happenings : List Happening) (w new : World) (doings : List Doing)
    → SetUpsMatch host terminals → Run (first host terminals) happenings w
    → MergedBytes w doings new → (more : List Happening) × Run w more new
