-- A line at a terminal that is on, from arming its disk to keeping the text that it sends.
use Rattle.std.proofs.Common.{◌≡◌, ℕ, ◌+◌, ◌^◌, ◌<◌, Bool, false, List, [], ◌∷◌, ◌++◌, length, Vec, Global, Option, None, refl, sym, ◌∙◌, ap, subst, suc}
use Rattle.std.specs.Prelude.{Result, IfOk}
use Rattle.cap_disk.specs.MemoryDisk.{told_of}
use Rattle.cap_disk.specs.declared.memory.MemoryDisk.{MemoryDisk}
use Rattle.cap_journal.specs.declared.journal.Journal.{Ghosts}
use Rattle.cap_leaf.specs.Date.{DateParts}
use Rattle.cap_msgs.specs.declared.message.Message.{Message}
use Rattle.cap_msgs.specs.Moment.{IsMoment}
use Rattle.cap_msgs.specs.Received.{Received}
use Rattle.cap_entries.specs.declared.terminal.TermEntry.{TermEntry}
use Rattle.cap_schedule.specs.declared.outcome.Outcome.{Outcome}
use Rattle.cap_schedule.specs.declared.schedule.Order.{Order}
use Rattle.cap_schedule.specs.declared.schedule.Prefix.{Prefix}
use Rattle.cap_schedule.specs.Reader.{IsReader}
use Rattle.cap_world.specs.World.{TerminalState}
use Rattle.cap_plays.specs.declared.fault.LineFault.{LineFault}
use Rattle.cap_plays.specs.Turns.{turn_of}
use Rattle.cap_plays.specs.Plays.{Doubt, moment_of}
use Rattle.cap_plays.specs.Corresponds.{end_fate}
use Rattle.cap_plays.specs.Texts.{AreTexts, texts_in}
use Rattle.cap_power.specs.Counting.{Counting, CountsFromOne, stop_behind}
use Rattle.cap_power.specs.Prefixes.{armed_of, ended_of}
use Rattle.cap_power.specs.Images.{NoOthers}
use Rattle.cap_power.specs.declared.power.Power.{Power}
use Rattle.cap_power.specs.declared.power.Power.TheVariants.{On}
use Rattle.cap_power.specs.declared.power.Settled.{Settled}
use Rattle.cap_terminal_lines.specs.declared.said.Said.{Said}
use Rattle.cap_terminal_lines.specs.Acts.{ActsAs, IsNoiseTo}
use Rattle.cap_terminal_side.specs.Keeping.{outcome_in, kept_of, text_in}
use Rattle.cap_terminal_side.specs.Sides.{SideStands, SideMeets, Does}
use Rattle.cap_terminal_side.proofs.Sending.{sends_last}
use Rattle.cap_terminal_side.proofs.Settling.{Sees, ready_for, Settles, meets}

-- as many texts as messages
texts_length : (texts : List (Vec ℕ Global)) (messages : List Message) → AreTexts (texts_in texts) messages → length texts ≡ length messages
texts_length [] [] are = refl
texts_length [] (message ∷ messages) are = absurd are
texts_length (text ∷ texts) [] are = absurd are
texts_length (text ∷ texts) (message ∷ messages) are = ap suc (texts_length texts messages are.1)

module _ {T : Type 0} (g : Ghosts T TermEntry) (disk : T → MemoryDisk) (sees : Sees g disk) where
  pub acts : (most : ℕ) (old : T) (sent answers : Vec (Vec ℕ Global) Global) (s : TerminalState) (places : List ℕ) (doubt : Doubt)
      → SideStands g.entries disk g.has_failed most (On old) sent answers s places doubt
      → (prefix : Option Prefix) (armed now : T) (said : Result Said LineFault) (parts : Result Outcome LineFault × Option (Vec ℕ Global)) (after : Settled T) (new : Vec (Vec ℕ Global) Global)
      (list : List (Vec ℕ Global)) (reads : List ℕ → Received) (moment count : ℕ) (order : Order)
      → CountsFromOne prefix → g.entries armed ≡ g.entries old → g.has_failed armed ≡ false → NoOthers (disk old) (disk armed)
      → (Counting None most (told_of (disk old)) → Counting prefix most (told_of (disk armed)))
      → IsReader reads → most + 8 < 2 ^ 64 → IsNoiseTo reads s.settled order → count ≡ length sent.items → list ≡ answers.items
      → ActsAs g armed now count (texts_in list) moment order said
      → parts ≡ (outcome_in said, text_in said) → Settles g disk sees prefix now parts.0 after → new.items ≡ sent.items ++ kept_of prefix parts.1
      → (created : DateParts) × IsMoment moment created
      × SideMeets g.entries disk g.has_failed (most + 8) after.power new answers places after.outcome (end_fate prefix s (turn_of reads s places moment created order))
  acts most old sent answers s places doubt stands prefix armed now said parts after new list reads moment count order one same works fewer arms reader few noise counted heard_is does is settles kept =
      let counting : Counting prefix most (told_of (disk armed)) = arms stands.ready.1 in
      let end = stands.stands in
      let ready = ready_for g disk sees prefix most old armed s stands.heard places doubt counting one same works fewer few end stands.counted in
      let foreign : IsNoiseTo reads (g.entries armed) order = subst (λ (l : List TermEntry). IsNoiseTo reads l order) (sym (same ∙ end.entries_are refl)) noise in
      let line = does reads stands.heard s places (armed_of prefix) (ended_of prefix) (record { calls = counting.calls; stop = stop_behind prefix counting.calls }) reader ready
      (counted ∙ texts_length sent.items s.sent stands.sent_are)
      (subst (λ (l : List (Vec ℕ Global)). AreTexts (texts_in l) stands.heard) (sym heard_is) stands.answers_are) foreign in
      let turn = turn_of reads s places moment line.0 order in (
        line.0,
        line.1,
        meets g disk sees prefix s turn places stands.heard most counting.calls now said after sent new answers (record {
          le = counting.few;
          last = sends_last reads s places moment line.0 order;
          line = line.2;
          settles = subst (λ (r : Result Outcome LineFault). Settles g disk sees prefix now r after) (ap (λ (p : Result Outcome LineFault × Option (Vec ℕ Global)). p.0) is) settles;
          counted = stands.counted;
          sent_are = stands.sent_are;
          answers_are = stands.answers_are;
          kept = kept ∙ ap (λ (p : Result Outcome LineFault × Option (Vec ℕ Global)). sent.items ++ kept_of prefix p.1) is;
        }),
      )

module _ {T : Type 0} (entries : T → List TermEntry) (disk : T → MemoryDisk) (has_failed : T → Bool) where
  -- the moment of a line
  pub does_at : {F : Type 0} (reads : List ℕ → Received) (most : ℕ) (power : Power T) (sent answers : Vec (Vec ℕ Global) Global) (s : TerminalState) (places : List ℕ) (number moment : ℕ) (prefix : Option Prefix) (order : Order)
      (result : Result Outcome F) → moment ≡ moment_of number
      → IfOk result (λ outcome. (created : DateParts) × IsMoment moment created × SideMeets entries disk has_failed most power sent answers places outcome (end_fate prefix s (turn_of reads s places moment created order)))
      → IfOk result (λ outcome. Does entries disk has_failed reads most power sent answers s places number prefix order outcome)
  does_at reads most power sent answers s places number moment prefix order result is does =
      subst (λ (m : ℕ). IfOk result (λ outcome. (created : DateParts) × IsMoment m created × SideMeets entries disk has_failed most power sent answers places outcome (end_fate prefix s (turn_of reads s places m created order)))) is does
