-- How a terminal of the network stands to one of the model, with the texts of all that it sent and of the answers that count.
use Rattle.std.specs.Prelude.{◌≡◌, ℕ, Bool, List, Option}
use Rattle.std.proofs.Common.{Vec, Global}
use Rattle.cap_leaf.specs.Date.{DateParts}
use Rattle.cap_msgs.specs.declared.message.Message.{Message}
use Rattle.cap_msgs.specs.Moment.{IsMoment}
use Rattle.cap_msgs.specs.Received.{Received}
use Rattle.cap_disk.specs.declared.memory.MemoryDisk.{MemoryDisk}
use Rattle.cap_journal.specs.File.{Has}
use Rattle.cap_entries.specs.declared.terminal.TermEntry.{TermEntry}
use Rattle.cap_entries.specs.TermRecord.{term_reading}
use Rattle.cap_schedule.specs.declared.outcome.Outcome.{Outcome}
use Rattle.cap_schedule.specs.declared.outcome.Outcome.TheVariants.{IsOff}
use Rattle.cap_schedule.specs.declared.schedule.Order.{Order}
use Rattle.cap_schedule.specs.declared.schedule.Prefix.{Prefix}
use Rattle.cap_world.specs.World.{TerminalState}
use Rattle.cap_plays.specs.Turns.{turn_of}
use Rattle.cap_plays.specs.Plays.{Doubt, MayKeep, moment_of}
use Rattle.cap_plays.specs.Corresponds.{AreCounted, EndFate, end_fate, end_opening}
use Rattle.cap_power.specs.Standing.{Stands, IsReady}
use Rattle.cap_power.specs.declared.power.Power.{Power}
use Rattle.cap_plays.specs.Texts.{AreTexts, texts_in}

-- the texts of messages that were kept
abbrev pub Kept : Vec (Vec ℕ Global) Global → List Message → Type 0
Kept texts messages = AreTexts (texts_in texts.items) messages

-- over what contracts see of a terminal
module _ {T : Type 0} (entries : T → List TermEntry) (disk : T → MemoryDisk) (has_failed : T → Bool) where
  -- the power and the texts stand to a terminal of the model. Where it is on, its disk works, nothing is armed on it, and it has answered at most so many
  -- calls
  pub record SideStands (most : ℕ) (power : Power T) (sent answers : Vec (Vec ℕ Global) Global) (s : TerminalState) (places : List ℕ) (doubt : Doubt) : Type 0 where
    pub stands : Stands (Has term_reading) entries disk power s.settled s.tried s.on doubt
    pub ready : IsReady has_failed disk most power
    pub sent_are : Kept sent s.sent
    pub heard : List Message
    pub counted : AreCounted s.answers places heard
    pub answers_are : Kept answers heard

  -- it stands to a fate, whose outcome was said
  abbrev pub SideMeets : (most : ℕ) → Power T → (sent answers : Vec (Vec ℕ Global) Global) → List ℕ → Outcome → EndFate → Type 0
  SideMeets most power sent answers places outcome fate = SideStands most power sent answers fate.state places fate.doubt × (outcome ≡ fate.outcome)

  -- a line was passed over, since the terminal is off; or it was done at its moment
  abbrev pub Passes : (most : ℕ) → Power T → (sent answers : Vec (Vec ℕ Global) Global) → TerminalState → List ℕ → Doubt → Outcome → Type 0
  Passes most power sent answers s places doubt outcome = SideStands most power sent answers s places doubt × (outcome ≡ IsOff)

  abbrev pub Does : (reads : List ℕ → Received) → (most : ℕ) → Power T → (sent answers : Vec (Vec ℕ Global) Global) → TerminalState → List ℕ
      → (number : ℕ) → Option Prefix → Order → Outcome → Type 0
  Does reads most power sent answers s places number prefix order outcome =
      (created : DateParts) × IsMoment (moment_of number) created
      × SideMeets most power sent answers places outcome (end_fate prefix s (turn_of reads s places (moment_of number) created order))

  -- an opening was done: it kept as many of the entries tried as the doubt allows
  abbrev pub Reopens : (most : ℕ) → Power T → (sent answers : Vec (Vec ℕ Global) Global) → TerminalState → List ℕ → Doubt → Option Prefix → Outcome → Type 0
  Reopens most power sent answers s places doubt prefix outcome =
      (kept : ℕ) × MayKeep doubt kept × SideMeets most power sent answers places outcome (end_opening prefix doubt kept s)
