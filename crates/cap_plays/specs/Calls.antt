-- What the adding calls of a terminal say over a disk that counts its device calls, and what a line of one terminal says.
use Rattle.std.specs.Prelude.{◌≡◌, ◌-◌, ⊤, [], ℕ, ◌≤◌, ◌<◌, Bool, true, false, List, ◌++◌, Result, Ok, Err}
use Rattle.cap_msgs.specs.declared.message.Message.{Message}
use Rattle.cap_disk.specs.Disk.{Counts}
use Rattle.cap_journal.specs.Told.{StopsAt}
use Rattle.cap_schedule.specs.declared.outcome.Outcome.{Outcome}
use Rattle.cap_world.specs.World.{TerminalState, HostState}
use Rattle.cap_plays.specs.declared.fault.LineFault.{LineFault}
use Rattle.cap_plays.specs.declared.fault.LineFault.TheVariants.{Disk, Memory}
use Rattle.cap_plays.specs.Turns.{Turn}
use Rattle.cap_plays.specs.Plays.{Doubt, no_doubt}
use Rattle.cap_plays.specs.Corresponds.{EachHas, EachHasEither, EndFate, end_in, HostFate}

-- a call added these entries as one group of four device calls
pub record Added {Entry : Type 0} (has : List ℕ → List Entry → Type 0) (images : List ℕ → Type 0) (old new added : List Entry) (before now : Counts) : Type 0 where
  pub grown : new ≡ old ++ added
  pub each : EachHas has images new
  pub later : (c : ℕ) → StopsAt c before → 0 < c → (4 < c) × StopsAt (c - 4) now

-- one of its four device calls failed
pub record Broke {Entry : Type 0} (has : List ℕ → List Entry → Type 0) (images : List ℕ → Type 0) (old added : List Entry) (before : Counts) : Type 0 where
  pub each : EachHasEither has images old (old ++ added)
  pub within : (c : ℕ) → StopsAt c before → c ≤ 4

-- a line of one terminal, by its answer: it stands to its fate, on or off; after want of memory nothing is said
abbrev pub LineSays : (stands : Bool → TerminalState → Doubt → Type 0) → (ended : Outcome) → EndFate → Result Outcome LineFault → Type 0
LineSays stands ended fate (Ok outcome) = stands true fate.state fate.doubt × (outcome ≡ fate.outcome)
LineSays stands ended fate (Err Disk) = stands false fate.state fate.doubt × (ended ≡ fate.outcome)
LineSays stands ended fate (Err Memory) = ⊤

-- the same, whichever state it stood to, and whichever of its device calls fails
abbrev pub TurnSays : (old new : Bool → TerminalState → Doubt → Type 0) → (before : Counts) → (TerminalState → Turn) → Result Outcome LineFault → Type 0
TurnSays old new before turn result =
    (s : TerminalState) (c : ℕ) (ended : Outcome) → old true s (no_doubt 0) → 1 ≤ c → StopsAt c before
    → LineSays new ended (end_in s (turn s).works (turn s).outcome ended c) result

-- a line of the host, by its answer: it stands to its fate, on or off, and these messages arrive at a terminal, and count or not; none after a fault
abbrev pub HostLineSays : (stands : Bool → HostState → Doubt → Type 0) → (ended : Outcome) → HostFate → (receiver : ℕ) → List Message → (counts : Bool) → Result Outcome LineFault → Type 0
HostLineSays stands ended fate receiver replies counts (Ok outcome) =
    stands true fate.state fate.doubt × (outcome ≡ fate.outcome) × (fate.receiver ≡ receiver) × (fate.replies ≡ replies) × (fate.counts ≡ counts)
HostLineSays stands ended fate receiver replies counts (Err Disk) =
    stands false fate.state fate.doubt × (ended ≡ fate.outcome) × (fate.receiver ≡ 0) × (fate.replies ≡ []) × (fate.counts ≡ false)
HostLineSays stands ended fate receiver replies counts (Err Memory) = ⊤
