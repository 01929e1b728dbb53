-- What the network gives to a line of the host, and what becomes of the terminals by what the line gives.
use Rattle.std.specs.Prelude.{◌≡◌, ℕ, ◌+◌, ◌<◌, ◌≤◌, Bool, List, [], ◌∷◌, ◌++◌, length, Option, Some, None, slice_get, slice_set}
use Rattle.std.proofs.Common.{Vec, Global}
use Rattle.cap_msgs.specs.declared.message.Message.{Message}
use Rattle.cap_disk.specs.declared.memory.MemoryDisk.{MemoryDisk}
use Rattle.cap_entries.specs.declared.terminal.TermEntry.{TermEntry}
use Rattle.cap_schedule.specs.declared.schedule.HostOrder.{HostOrder}
use Rattle.cap_schedule.specs.declared.schedule.HostOrder.TheVariants as W
use Rattle.cap_world.specs.World.{TerminalState}
use Rattle.cap_plays.specs.Plays.{Doubt, places_from}
use Rattle.cap_plays.specs.Corresponds.{answered}
use Rattle.cap_plays.specs.Texts.{IsTextOf}
use Rattle.cap_power.specs.declared.power.Power.{Power}
use Rattle.cap_terminal_side.specs.declared.side.Side.{Side}
use Rattle.cap_terminal_side.specs.Sides.{SideStands}

-- for a message of a terminal: the texts of all that it sent, and the place behind its answers that count
pub record GivesFor (sides : List Side) (terminal : ℕ) (texts : List (Vec ℕ Global)) (place : ℕ) : Type 0 where
  pub there : (side : Side) → slice_get sides terminal ≡ Some side → (texts ≡ side.sent.items) × (place ≡ length side.answers.items + 1)
  pub nobody : length sides ≤ terminal → (texts ≡ []) × (place ≡ 1)

abbrev pub Gives : List Side → HostOrder → List (Vec ℕ Global) → (place : ℕ) → Type 0
Gives sides order texts place = (terminal which : ℕ) → order ≡ W.Up terminal which → GivesFor sides terminal texts place

module _ {T : Type 0} (term_entries : T → List TermEntry) (term_disk : T → MemoryDisk) (term_failed : T → Bool) (power : Side → Power T) where
  -- a text arrives at a terminal
  abbrev pub Hears : (old new : Side) → (text : List ℕ) → Type 0
  Hears old new text =
      (most : ℕ) (s : TerminalState) (places : List ℕ) (doubt : Doubt) (message : Message) → IsTextOf message text
      → SideStands term_entries term_disk term_failed most (power old) old.sent old.answers s places doubt
      → SideStands term_entries term_disk term_failed most (power new) new.sent new.answers (answered s (message ∷ [])) (places ++ places_from (length s.answers) (message ∷ [])) doubt

  -- by the reply of a line
  abbrev pub GoesTo : (sides after : List Side) → HostOrder → Option (Vec ℕ Global) → Type 0
  GoesTo sides after order None = after ≡ sides
  GoesTo sides after order (Some text) =
      (terminal which : ℕ) → order ≡ W.Up terminal which → terminal < length sides
      → (old : Side) × (new : Side) × (slice_get sides terminal ≡ Some old) × (after ≡ slice_set sides terminal new) × Hears old new text.items
