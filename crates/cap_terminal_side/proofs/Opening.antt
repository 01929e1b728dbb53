-- A terminal that is set up, passed over, opened again, or asked for its disk.
use Rattle.std.proofs.Common.{◌≡◌, ℕ, ◌≤◌, Bool, true, false, List, [], ◌∷◌, Vec, Global, Option, Some, None, refl, sym, ◌∙◌, subst}
use Rattle.std.specs.Prelude.{nat_le, ◌==◌, if◌then◌else◌}
use Rattle.cap_disk.specs.Disk.{Counts, StaysCounted}
use Rattle.cap_disk.specs.MemoryDisk.{told_of}
use Rattle.cap_disk.specs.declared.memory.MemoryDisk.{MemoryDisk}
use Rattle.cap_journal.specs.File.{Has}
use Rattle.cap_msgs.specs.declared.message.Message.{Message}
use Rattle.cap_entries.specs.Settings.{TerminalSettings}
use Rattle.cap_entries.specs.declared.terminal.TermEntry.{TermEntry}
use Rattle.cap_entries.specs.declared.terminal.TermEntry.TheVariants.{Setup}
use Rattle.cap_entries.specs.TermRecord.{term_reading}
use Rattle.cap_schedule.specs.declared.schedule.Prefix.{Prefix}
use Rattle.cap_schedule.specs.declared.schedule.Prefix.TheVariants.{Cut, Fail, CutAfter}
use Rattle.cap_world.specs.World.{TerminalState, started}
use Rattle.cap_plays.specs.Plays.{Doubt, no_doubt, MayKeep}
use Rattle.cap_plays.specs.Corresponds.{EachHas, EndCorresponds, AreCounted, EndFate, end_opening}
use Rattle.cap_plays.specs.Holding.{end_added, end_has}
use Rattle.cap_plays.specs.Texts.{AreTexts, texts_in}
use Rattle.cap_power.specs.Counting.{Counting}
use Rattle.cap_power.specs.Fates.{opening, MeetsFate, terminal_fate, terminal_opening}
use Rattle.cap_power.specs.Images.{images_of, NoOthers}
use Rattle.cap_power.specs.Standing.{IsReady, fails}
use Rattle.cap_power.specs.declared.power.Power.{Power}
use Rattle.cap_power.specs.declared.power.Power.TheVariants.{On, Off, Lent}
use Rattle.cap_power.specs.declared.power.Settled.{Settled}
use Rattle.cap_terminal_side.specs.Sides.{Kept, SideStands, Reopens}
use Rattle.cap_terminal_side.specs.Arriving.{more_ready}

-- an opening sends nothing, and hears nothing
either_sent : (b : Bool) (x y : EndFate) (list : List Message) → x.state.sent ≡ list → y.state.sent ≡ list → (if b then x else y).state.sent ≡ list
either_sent true x y list one other = one
either_sent false x y list one other = other

either_heard : (b : Bool) (x y : EndFate) (list : List Message) → x.state.answers ≡ list → y.state.answers ≡ list → (if b then x else y).state.answers ≡ list
either_heard true x y list one other = one
either_heard false x y list one other = other

opening_sent : (prefix : Option Prefix) (doubt : Doubt) (kept : ℕ) (s : TerminalState) → (end_opening prefix doubt kept s).state.sent ≡ s.sent
opening_sent None doubt kept s = refl
opening_sent (Some (Cut call fill)) doubt kept s = either_sent (nat_le call 2) _ _ s.sent refl refl
opening_sent (Some (Fail call fill)) doubt kept s = either_sent (nat_le call 2) _ _ s.sent (either_sent (call == 1) _ _ s.sent refl refl) refl
opening_sent (Some CutAfter) doubt kept s = refl

opening_heard : (prefix : Option Prefix) (doubt : Doubt) (kept : ℕ) (s : TerminalState) → (end_opening prefix doubt kept s).state.answers ≡ s.answers
opening_heard None doubt kept s = refl
opening_heard (Some (Cut call fill)) doubt kept s = either_heard (nat_le call 2) _ _ s.answers refl refl
opening_heard (Some (Fail call fill)) doubt kept s = either_heard (nat_le call 2) _ _ s.answers (either_heard (call == 1) _ _ s.answers refl refl) refl
opening_heard (Some CutAfter) doubt kept s = refl

-- the numbers that a disk told stay
counted_still : (most : ℕ) (old new : Option Counts) → Counting None most old → StaysCounted old new → Counting None most new
counted_still most old new counting stays = record {
  calls = counting.calls;
  few = counting.few;
  is = subst (λ (o : Option Counts). StaysCounted o new) counting.is stays;
}

unlike : {A : Type 0} (b d : Bool) → b ≡ true → b ≡ d → d ≡ false → A
unlike b d is same other = cc

module _ {T : Type 0} (entries : T → List TermEntry) (disk : T → MemoryDisk) (has_failed : T → Bool) where
  abbrev Stood : (most : ℕ) → Power T → (sent answers : Vec (Vec ℕ Global) Global) → TerminalState → List ℕ → Doubt → Type 0
  Stood most power sent answers s places doubt = SideStands entries disk has_failed most power sent answers s places doubt

  -- a terminal of its set-up alone
  pub new_stands : (settings : TerminalSettings) (t : T) (list : List TermEntry) (old : MemoryDisk) (sent answers : Vec (Vec ℕ Global) Global)
      → entries t ≡ list → list ≡ Setup settings ∷ [] → has_failed t ≡ false → NoOthers old (disk t) → EachHas (Has term_reading) (images_of old) list
      → Counting None 7 (told_of old) → StaysCounted (told_of old) (told_of (disk t)) → sent.items ≡ [] → answers.items ≡ []
      → Stood 7 (On t) sent answers (started settings) [] (no_doubt 0)
  new_stands settings t list old sent answers same is works fewer each counting stays nothing_sent nothing_heard = record {
    stands = end_added (Has term_reading) (images_of (disk t)) (entries t) [] (Setup settings ∷ []) (same ∙ is)
        (λ image left. subst (λ (l : List TermEntry). Has term_reading image l) (sym same) (each image (fewer image left)));
    ready = (works, counted_still 7 (told_of old) (told_of (disk t)) counting stays);
    sent_are = subst (λ (l : List (Vec ℕ Global)). AreTexts (texts_in l) []) (sym nothing_sent) tt;
    heard = [];
    counted = refl;
    answers_are = subst (λ (l : List (Vec ℕ Global)). AreTexts (texts_in l) []) (sym nothing_heard) tt;
  }

  -- where its power is this
  pub stands_at : (most : ℕ) (power other : Power T) (sent answers : Vec (Vec ℕ Global) Global) (s : TerminalState) (places : List ℕ) (doubt : Doubt)
      → power ≡ other → Stood most power sent answers s places doubt → Stood most other sent answers s places doubt
  stands_at most power other sent answers s places doubt is stands = subst (λ (p : Power T). Stood most p sent answers s places doubt) is stands

  pub works_at : (power : Power T) (t : T) → fails has_failed power ≡ false → power ≡ On t → has_failed t ≡ false
  works_at power t works is = subst (λ (p : Power T). fails has_failed p ≡ false) is works

  pub ready_works : (most : ℕ) (power : Power T) → IsReady has_failed disk most power → fails has_failed power ≡ false
  ready_works most (On end) ready = ready.0
  ready_works most (Off left) ready = refl
  ready_works most Lent ready = refl

  -- one that is on stands to no state that is off, and the other way round
  pub on_not_off : {A : Type 0} (most : ℕ) (power : Power T) (t : T) (sent answers : Vec (Vec ℕ Global) Global) (s : TerminalState) (places : List ℕ) (doubt : Doubt)
      → power ≡ On t → Stood most power sent answers s places doubt → s.on ≡ false → A
  on_not_off most power t sent answers s places doubt is stands off =
      let here = stands_at most power (On t) sent answers s places doubt is stands in
      let end : EndCorresponds (Has term_reading) (images_of (disk t)) true (entries t) s.settled s.tried s.on doubt = here.stands in
      unlike true s.on refl end.on_is off

  pub off_not_on : {A : Type 0} (most : ℕ) (power : Power T) (left : MemoryDisk) (sent answers : Vec (Vec ℕ Global) Global) (s : TerminalState) (places : List ℕ) (doubt : Doubt)
      → power ≡ Off left → Stood most power sent answers s places doubt → s.on ≡ true → A
  off_not_on most power left sent answers s places doubt is stands on =
      let here = stands_at most power (Off left) sent answers s places doubt is stands in
      let end : EndCorresponds (Has term_reading) (images_of left) false [] s.settled s.tried s.on doubt = here.stands in
      unlike s.on false on (sym end.on_is) refl

  -- no terminal of the model stands for one in other hands
  pub never_lent : {A : Type 0} (most : ℕ) (power : Power T) (sent answers : Vec (Vec ℕ Global) Global) (s : TerminalState) (places : List ℕ) (doubt : Doubt)
      → power ≡ Lent → Stood most power sent answers s places doubt → A
  never_lent most power sent answers s places doubt is stands =
      let here = stands_at most power Lent sent answers s places doubt is stands in
      absurd here.stands

  -- it was opened again
  pub reopened_meets : (prefix : Option Prefix) (most : ℕ) (power : Power T) (after : Settled T) (sent answers : Vec (Vec ℕ Global) Global) (s : TerminalState) (places : List ℕ) (doubt : Doubt)
      → 2 ≤ most → Stood most power sent answers s places doubt
      → (kept : ℕ) × MayKeep doubt kept × MeetsFate (Has term_reading) entries disk after (opening prefix doubt kept s.settled s.tried)
      → IsReady has_failed disk 2 after.power
      → Reopens entries disk has_failed most after.power sent answers s places doubt prefix after.outcome
  reopened_meets prefix most power after sent answers s places doubt le stands opens ready =
      let (kept, keeps, meets) = opens in
      let fate = end_opening prefix doubt kept s in
      let met : MeetsFate (Has term_reading) entries disk after (terminal_fate fate) =
      subst (λ f. MeetsFate (Has term_reading) entries disk after f) (sym (terminal_opening prefix doubt kept s)) meets in (
        kept,
        keeps,
        (
          record {
            stands = met.0;
            ready = more_ready entries disk has_failed 2 most after.power le ready;
            sent_are = subst (λ (l : List Message). Kept sent l) (sym (opening_sent prefix doubt kept s)) stands.sent_are;
            heard = stands.heard;
            counted = subst (λ (l : List Message). AreCounted l places stands.heard) (sym (opening_heard prefix doubt kept s)) stands.counted;
            answers_are = stands.answers_are;
          },
          met.1,
        ),
      )

  -- its disk, where it is on
  pub disk_has : (most : ℕ) (power : Power T) (t : T) (left : MemoryDisk) (sent answers : Vec (Vec ℕ Global) Global) (s : TerminalState) (places : List ℕ) (doubt : Doubt)
      → power ≡ On t → left ≡ disk t → Stood most power sent answers s places doubt → s.on ≡ true → EachHas (Has term_reading) (images_of left) s.settled
  disk_has most power t left sent answers s places doubt is same stands on =
      let here = stands_at most power (On t) sent answers s places doubt is stands in
      let end : EndCorresponds (Has term_reading) (images_of (disk t)) true (entries t) s.settled s.tried s.on doubt = here.stands in
      subst (λ (d : MemoryDisk). EachHas (Has term_reading) (images_of d) s.settled) (sym same) (end_has (Has term_reading) (images_of (disk t)) true (entries t) s.settled s.tried s.on doubt end on)
