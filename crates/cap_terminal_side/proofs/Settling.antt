-- What becomes of a terminal that did a line behind a prefix, from what the line says and what settling it says.
use Rattle.std.proofs.Common.{◌≡◌, ℕ, ◌+◌, ◌^◌, ◌<◌, ◌≤◌, Bool, true, false, List, [], ◌∷◌, ◌++◌, length, take, Vec, Global, Option, Some, None, refl, sym, ◌∙◌, ap, subst, inl, append-nil, arith}
use Rattle.std.specs.Prelude.{Result, Ok, Err, IsTrue, IfOk, OnOk, IsErrOf, option_to_list, if◌then◌else◌}
use Rattle.std.proofs.Math.Seq.{take-nil}
use Rattle.cap_disk.specs.MemoryDisk.{told_of}
use Rattle.cap_disk.specs.declared.memory.MemoryDisk.{MemoryDisk}
use Rattle.cap_journal.specs.declared.journal.Journal.{Ghosts}
use Rattle.cap_journal.specs.File.{Has}
use Rattle.cap_msgs.specs.declared.message.Message.{Message}
use Rattle.cap_entries.specs.declared.terminal.TermEntry.{TermEntry}
use Rattle.cap_entries.specs.TermRecord.{term_reading}
use Rattle.cap_schedule.specs.declared.outcome.Outcome.{Outcome}
use Rattle.cap_schedule.specs.declared.outcome.Outcome.TheVariants.{WasCut}
use Rattle.cap_schedule.specs.declared.schedule.Prefix.{Prefix}
use Rattle.cap_schedule.specs.declared.schedule.Prefix.TheVariants.{Cut, Fail, CutAfter}
use Rattle.cap_world.specs.World.{TerminalState}
use Rattle.cap_plays.specs.declared.fault.LineFault.{LineFault}
use Rattle.cap_plays.specs.declared.fault.LineFault.TheVariants.{Disk, Memory}
use Rattle.cap_plays.specs.Turns.{Turn}
use Rattle.cap_plays.specs.Plays.{Doubt, no_doubt}
use Rattle.cap_plays.specs.Corresponds.{EndCorresponds, AreCounted, EndFate, end_whole, end_cut_after, end_fate}
use Rattle.cap_plays.specs.Holding.{end_fewer}
use Rattle.cap_plays.specs.Texts.{AreTexts, IsSent, texts_in}
use Rattle.cap_power.specs.Counting.{Counting, CountsFromOne, cuts, cuts_after, arms, stop_behind, outcome_of_fault}
use Rattle.cap_power.specs.Prefixes.{armed_of, ended_of, armed_is}
use Rattle.cap_power.specs.Images.{images_of, NoOthers}
use Rattle.cap_power.specs.Standing.{Stands, IsReady}
use Rattle.cap_power.specs.declared.power.Power.{Power}
use Rattle.cap_power.specs.declared.power.Power.TheVariants.{On, Off, Lent}
use Rattle.cap_power.specs.declared.power.Settled.{Settled}
use Rattle.cap_terminal_lines.specs.declared.said.Said.{Said}
use Rattle.cap_terminal_lines.specs.Acts.{IsReady as IsReadyFor, IsDone, IsBroken, LineDone, end_armed, sent_in}
use Rattle.cap_terminal_side.specs.Keeping.{outcome_in, kept_of, text_in}
use Rattle.cap_terminal_side.specs.Sides.{Kept, SideMeets}
use Rattle.cap_terminal_side.specs.Prefixes.{fate_is_armed}
use Rattle.cap_terminal_side.specs.Arriving.{more_ready, kept_behind}
use Rattle.cap_terminal_side.proofs.Sending.{SendsLast, done_sent, broken_sent, CutAfterLast, cut_after_last}

-- the text of what is sent, as one of a list
sent_texts : (text : Option (Vec ℕ Global)) (messages : List Message) → IsSent text messages → AreTexts (texts_in (option_to_list text)) messages
sent_texts None [] sent = tt
sent_texts None (message ∷ messages) sent = absurd sent
sent_texts (Some text) [] sent = absurd sent
sent_texts (Some text) (message ∷ []) sent = (sent, tt)
sent_texts (Some text) (message ∷ other ∷ messages) sent = absurd sent

-- which texts are kept behind those that were sent
kept_all : (prefix : Option Prefix) (text : Option (Vec ℕ Global)) → cuts_after prefix ≡ false → kept_of prefix text ≡ option_to_list text
kept_all prefix text uncut = ap (λ (b : Bool). if b then [] else option_to_list text) uncut

kept_none : (prefix : Option Prefix) (text : Option (Vec ℕ Global)) → cuts_after prefix ≡ true → kept_of prefix text ≡ []
kept_none prefix text cut = ap (λ (b : Bool). if b then [] else option_to_list text) cut

unarmed_stop : (prefix : Option Prefix) (calls : ℕ) → arms prefix ≡ false → stop_behind prefix calls ≡ None
unarmed_stop None calls not_armed = refl
unarmed_stop (Some (Cut call fill)) calls not_armed = cc
unarmed_stop (Some (Fail call fill)) calls not_armed = cc
unarmed_stop (Some CutAfter) calls not_armed = refl

on_is_not_off : {A : Type 0} (b : Bool) → true ≡ b → b ≡ false → A
on_is_not_off b on off = cc

-- nothing is in doubt of an end that is on
without_doubt : (images : List ℕ → Type 0) (entries settled tried : List TermEntry) (is_on : Bool) (doubt : Doubt)
    → EndCorresponds (Has term_reading) images true entries settled tried is_on doubt → EndCorresponds (Has term_reading) images true entries settled tried is_on (no_doubt 0)
without_doubt images entries settled tried is_on doubt stands = record {
  on_is = stands.on_is;
  entries_are = stands.entries_are;
  none_tried = stands.none_tried;
  holds = λ image left.
      let none : tried ≡ [] = stands.none_tried refl in
      let (kept, keeps, held) = stands.holds image left in
      (0, inl refl, subst (Has term_reading image) (ap (λ l. settled ++ l) (ap (take kept) none ∙ take-nil kept)) held);
}

-- a terminal is seen as a journal that tells the contents of a disk in memory
pub record Sees {T : Type 0} (g : Ghosts T TermEntry) (disk : T → MemoryDisk) : Type 0 where
  pub told : (t : T) → IsTrue (g.tells t)
  pub left : (t : T) (image : List ℕ) → images_of (disk t) image → g.may_leave t image
  pub leaves : (t : T) (image : List ℕ) → g.may_leave t image → images_of (disk t) image
  pub counts : (t : T) → g.counts t ≡ told_of (disk t)

module _ {T : Type 0} (g : Ghosts T TermEntry) (disk : T → MemoryDisk) (sees : Sees g disk) where
  abbrev StandsAt : Power T → List TermEntry → List TermEntry → Bool → Doubt → Type 0
  StandsAt power settled tried is_on doubt = Stands (Has term_reading) g.entries disk power settled tried is_on doubt

  abbrev CorrespondsAt : T → (on : Bool) → List TermEntry → List TermEntry → List TermEntry → Bool → Doubt → Type 0
  CorrespondsAt t on list settled tried is_on doubt = EndCorresponds (Has term_reading) (images_of (disk t)) on list settled tried is_on doubt

  -- the images of the disk are those that the journal may leave
  seen_end : (t : T) (on : Bool) (list settled tried : List TermEntry) (is_on : Bool) (doubt : Doubt) → EndCorresponds (Has term_reading) (g.may_leave t) on list settled tried is_on doubt → CorrespondsAt t on list settled tried is_on doubt
  seen_end t on list settled tried is_on doubt stands = end_fewer (Has term_reading) (g.may_leave t) (images_of (disk t)) on list list settled tried is_on doubt stands (λ is. refl) (sees.left t)

  -- a terminal on whose disk the prefix was armed is ready for a line
  pub ready_for : (prefix : Option Prefix) (most : ℕ) (old new : T) (s : TerminalState) (heard : List Message) (places : List ℕ) (doubt : Doubt) (counting : Counting prefix most (told_of (disk new)))
      → CountsFromOne prefix → g.entries new ≡ g.entries old → g.has_failed new ≡ false → NoOthers (disk old) (disk new) → most + 8 < 2 ^ 64
      → CorrespondsAt old true (g.entries old) s.settled s.tried s.on doubt → AreCounted s.answers places heard
      → IsReadyFor g 8 new heard s places (armed_of prefix) (record { calls = counting.calls; stop = stop_behind prefix counting.calls })
  ready_for prefix most old new s heard places doubt counting one same works fewer few stands counted = record {
    told = sees.told new;
    works = works;
    counts_are = sees.counts new ∙ counting.is;
    few = let le : counting.calls ≤ most = counting.few in omega (arith, le, few);
    is_armed = armed_is prefix counting.calls one;
    stands = record {
      end = without_doubt (g.may_leave new) (g.entries new) s.settled s.tried s.on doubt
          (end_fewer (Has term_reading) (images_of (disk old)) (g.may_leave new) true (g.entries old) (g.entries new) s.settled s.tried s.on doubt stands (λ on. same) (λ image left. fewer image (sees.leaves new image left)));
      sent_is = refl;
      answers_are = counted;
    };
  }

  -- what settling says of the power, by what the line said
  pub record Settles (prefix : Option Prefix) (t : T) (said : Result Outcome LineFault) (after : Settled T) : Type 0 where
    pub stays : cuts_after prefix ≡ false → (settled tried : List TermEntry) (is_on : Bool) (doubt : Doubt) → CorrespondsAt t true (g.entries t) settled tried is_on doubt
        → OnOk said (StandsAt after.power settled tried is_on doubt)
    pub outcome : cuts_after prefix ≡ false → IfOk said (λ outcome. after.outcome ≡ outcome)
    pub cut : cuts_after prefix ≡ true → (settled added : List TermEntry) → g.entries t ≡ settled ++ added → OnOk said (StandsAt after.power settled added false (no_doubt (length added)))
    pub was_cut : cuts_after prefix ≡ true → OnOk said (after.outcome ≡ WasCut)
    pub ready : (calls : ℕ) (stop : Option ℕ) → told_of (disk t) ≡ Some (record { calls = calls; stop = stop }) → (arms prefix ≡ false → stop ≡ None) → IsReady g.has_failed disk calls after.power
    pub broken : (list settled tried : List TermEntry) (is_on : Bool) (doubt : Doubt) → CorrespondsAt t false list settled tried is_on doubt → IsErrOf said Disk → StandsAt after.power settled tried is_on doubt
    pub fault : IsErrOf said Disk → after.outcome ≡ outcome_of_fault (cuts prefix)
    pub no_memory : IsErrOf said Memory → ⊥

  -- an end that is off counts no calls
  off_ready : (most : ℕ) (power : Power T) (settled tried : List TermEntry) (is_on : Bool) (doubt : Doubt) → is_on ≡ false → StandsAt power settled tried is_on doubt → IsReady g.has_failed disk most power
  off_ready most (On end) settled tried is_on doubt off stands = on_is_not_off is_on stands.on_is off
  off_ready most (Off left) settled tried is_on doubt off stands = tt
  off_ready most Lent settled tried is_on doubt off stands = tt

  -- the line was done to its end, and the power outlives it
  done_meets : (prefix : Option Prefix) (s : TerminalState) (turn : Turn) (places : List ℕ) (heard : List Message) (most calls : ℕ) (t : T) (said : Said) (after : Settled T) (sent new answers : Vec (Vec ℕ Global) Global)
      → cuts_after prefix ≡ false → calls ≤ most
      → IsDone g 8 t heard s places (armed_of prefix) (ended_of prefix) (record { calls = calls; stop = stop_behind prefix calls }) turn said
      → Settles prefix t (Ok said.outcome) after → Kept sent s.sent → Kept answers heard → new.items ≡ sent.items ++ kept_of prefix said.sent
      → SideMeets g.entries disk g.has_failed (most + 8) after.power new answers places after.outcome (end_fate prefix s turn)
  done_meets prefix s turn places heard most calls t said after sent new answers uncut le done settles sent_are answers_are kept =
      let ended = ended_of prefix in
      let fate = end_armed (armed_of prefix) s turn ended in
      let past = done.after in
      let end : CorrespondsAt t true (g.entries t) fate.state.settled fate.state.tried fate.state.on fate.doubt = seen_end t true (g.entries t) fate.state.settled fate.state.tried fate.state.on fate.doubt done.stands.end in
      let stop : past.stop ≡ stop_behind prefix calls = done.goes_on.stop in
      let few : past.calls ≤ calls + 8 = done.goes_on.few in
      let ready = settles.ready past.calls past.stop (sym (sees.counts t) ∙ done.counts_are) (λ not_armed. stop ∙ unarmed_stop prefix calls not_armed) in
      let grown : new.items ≡ sent.items ++ option_to_list said.sent = kept ∙ ap (λ l. sent.items ++ l) (kept_all prefix said.sent uncut) in
      let more : AreTexts (texts_in (sent.items ++ option_to_list said.sent)) (s.sent ++ sent_in turn.works) =
      kept_behind sent.items (option_to_list said.sent) s.sent (sent_in turn.works) sent_are (sent_texts said.sent (sent_in turn.works) done.sent_is) in
      let all : AreTexts (texts_in new.items) fate.state.sent =
      subst (λ (l : List (Vec ℕ Global)). AreTexts (texts_in l) fate.state.sent) (sym grown)
      (subst (λ (l : List Message). AreTexts (texts_in (sent.items ++ option_to_list said.sent)) l) (sym (done_sent (armed_of prefix) s turn ended (sym end.on_is))) more) in
      subst (λ (f : EndFate). SideMeets g.entries disk g.has_failed (most + 8) after.power new answers places after.outcome f) (sym (fate_is_armed prefix s turn uncut)) (
        record {
          stands = settles.stays uncut fate.state.settled fate.state.tried fate.state.on fate.doubt end;
          ready = more_ready g.entries disk g.has_failed past.calls (most + 8) after.power (omega (arith, few, le)) ready;
          sent_are = all;
          heard = heard;
          counted = done.stands.answers_are;
          answers_are = answers_are;
        },
        settles.outcome uncut ∙ done.outcome_is,
      )

  -- the armed call ended it
  broken_meets : (prefix : Option Prefix) (s : TerminalState) (turn : Turn) (places : List ℕ) (heard : List Message) (most : ℕ) (t : T) (after : Settled T) (sent new answers : Vec (Vec ℕ Global) Global)
      → cuts_after prefix ≡ false → SendsLast turn.works
      → IsBroken g t heard s places (armed_of prefix) (ended_of prefix) turn
      → Settles prefix t (Err Disk) after → Kept sent s.sent → Kept answers heard → new.items ≡ sent.items ++ kept_of prefix None
      → SideMeets g.entries disk g.has_failed (most + 8) after.power new answers places after.outcome (end_fate prefix s turn)
  broken_meets prefix s turn places heard most t after sent new answers uncut last broken settles sent_are answers_are kept =
      let ended = ended_of prefix in
      let fate = end_armed (armed_of prefix) s turn ended in
      let end : CorrespondsAt t false (g.entries t) fate.state.settled fate.state.tried fate.state.on fate.doubt = seen_end t false (g.entries t) fate.state.settled fate.state.tried fate.state.on fate.doubt broken.stands.end in
      let off : fate.state.on ≡ false = sym end.on_is in
      let stands : StandsAt after.power fate.state.settled fate.state.tried fate.state.on fate.doubt = settles.broken (g.entries t) fate.state.settled fate.state.tried fate.state.on fate.doubt end refl in
      let same : new.items ≡ sent.items = kept ∙ (ap (λ l. sent.items ++ l) (kept_all prefix None uncut) ∙ append-nil sent.items) in
      let all : AreTexts (texts_in new.items) fate.state.sent =
      subst (λ (l : List (Vec ℕ Global)). AreTexts (texts_in l) fate.state.sent) (sym same)
      (subst (λ (l : List Message). AreTexts (texts_in sent.items) l) (sym (broken_sent (armed_of prefix) s turn ended broken.some last off)) sent_are) in
      subst (λ (f : EndFate). SideMeets g.entries disk g.has_failed (most + 8) after.power new answers places after.outcome f) (sym (fate_is_armed prefix s turn uncut)) (
        record {
          stands = stands;
          ready = off_ready (most + 8) after.power fate.state.settled fate.state.tried fate.state.on fate.doubt off stands;
          sent_are = all;
          heard = heard;
          counted = broken.stands.answers_are;
          answers_are = answers_are;
        },
        settles.fault refl ∙ broken.outcome_is,
      )

  -- the power goes after all of it
  cut_meets : (s : TerminalState) (turn : Turn) (places : List ℕ) (heard : List Message) (most : ℕ) (t : T) (said : Said) (after : Settled T) (sent new answers : Vec (Vec ℕ Global) Global)
      → SendsLast turn.works → g.entries t ≡ (end_whole s turn.works turn.outcome).state.settled → AreCounted s.answers places heard
      → Settles (Some CutAfter) t (Ok said.outcome) after → Kept sent s.sent → Kept answers heard → new.items ≡ sent.items ++ []
      → SideMeets g.entries disk g.has_failed (most + 8) after.power new answers places after.outcome (end_cut_after s turn.works)
  cut_meets s turn places heard most t said after sent new answers last is counted settles sent_are answers_are kept =
      let fate = end_cut_after s turn.works in
      let after_last : CutAfterLast s turn.works turn.outcome fate = cut_after_last s turn.works turn.outcome last in
      let tried = fate.state.tried in
      let found : StandsAt after.power fate.state.settled tried false (no_doubt (length tried)) = settles.cut refl fate.state.settled tried (is ∙ after_last.grown) in
      let stands : StandsAt after.power fate.state.settled tried fate.state.on fate.doubt =
      subst (λ (b : Bool). StandsAt after.power fate.state.settled tried b fate.doubt) (sym after_last.off)
      (subst (λ (d : Doubt). StandsAt after.power fate.state.settled tried false d) (sym after_last.all) found) in
      let same : new.items ≡ sent.items = kept ∙ append-nil sent.items in (
        record {
          stands = stands;
          ready = off_ready (most + 8) after.power fate.state.settled tried fate.state.on fate.doubt after_last.off stands;
          sent_are =
              subst (λ (l : List (Vec ℕ Global)). AreTexts (texts_in l) fate.state.sent) (sym same)
              (subst (λ (l : List Message). AreTexts (texts_in sent.items) l) (sym after_last.sent_still) sent_are);
          heard = heard;
          counted = subst (λ (l : List Message). AreCounted l places heard) (sym after_last.answers_still) counted;
          answers_are = answers_are;
        },
        settles.was_cut refl ∙ sym after_last.cut,
      )

  -- what is given of a line behind a prefix, by what it said
  pub record Acted (prefix : Option Prefix) (s : TerminalState) (turn : Turn) (places : List ℕ) (heard : List Message) (most calls : ℕ) (t : T) (said : Result Said LineFault) (after : Settled T) (sent new answers : Vec (Vec ℕ Global) Global) : Type 0 where
    pub le : calls ≤ most
    pub last : SendsLast turn.works
    pub line : LineDone g 8 t heard s places (armed_of prefix) (ended_of prefix) (record { calls = calls; stop = stop_behind prefix calls }) turn said
    pub settles : Settles prefix t (outcome_in said) after
    pub counted : AreCounted s.answers places heard
    pub sent_are : Kept sent s.sent
    pub answers_are : Kept answers heard
    pub kept : new.items ≡ sent.items ++ kept_of prefix (text_in said)

  uncut_meets : (prefix : Option Prefix) (s : TerminalState) (turn : Turn) (places : List ℕ) (heard : List Message) (most calls : ℕ) (t : T) (said : Result Said LineFault) (after : Settled T) (sent new answers : Vec (Vec ℕ Global) Global)
      → cuts_after prefix ≡ false → Acted prefix s turn places heard most calls t said after sent new answers
      → SideMeets g.entries disk g.has_failed (most + 8) after.power new answers places after.outcome (end_fate prefix s turn)
  uncut_meets prefix s turn places heard most calls t (Ok said) after sent new answers uncut acted =
      done_meets prefix s turn places heard most calls t said after sent new answers uncut acted.le acted.line acted.settles acted.sent_are acted.answers_are acted.kept
  uncut_meets prefix s turn places heard most calls t (Err Disk) after sent new answers uncut acted =
      broken_meets prefix s turn places heard most t after sent new answers uncut acted.last acted.line acted.settles acted.sent_are acted.answers_are acted.kept
  uncut_meets prefix s turn places heard most calls t (Err Memory) after sent new answers uncut acted = absurd (acted.settles.no_memory refl)

  after_meets : (s : TerminalState) (turn : Turn) (places : List ℕ) (heard : List Message) (most calls : ℕ) (t : T) (said : Result Said LineFault) (after : Settled T) (sent new answers : Vec (Vec ℕ Global) Global)
      → Acted (Some CutAfter) s turn places heard most calls t said after sent new answers
      → SideMeets g.entries disk g.has_failed (most + 8) after.power new answers places after.outcome (end_cut_after s turn.works)
  after_meets s turn places heard most calls t (Ok said) after sent new answers acted =
      cut_meets s turn places heard most t said after sent new answers acted.last (acted.line.stands.end.entries_are refl) acted.counted acted.settles acted.sent_are acted.answers_are acted.kept
  after_meets s turn places heard most calls t (Err Disk) after sent new answers acted = on_is_not_off true refl (sym acted.line.some)
  after_meets s turn places heard most calls t (Err Memory) after sent new answers acted = absurd (acted.settles.no_memory refl)

  -- it stands to its fate
  pub meets : (prefix : Option Prefix) (s : TerminalState) (turn : Turn) (places : List ℕ) (heard : List Message) (most calls : ℕ) (t : T) (said : Result Said LineFault) (after : Settled T) (sent new answers : Vec (Vec ℕ Global) Global)
      → Acted prefix s turn places heard most calls t said after sent new answers
      → SideMeets g.entries disk g.has_failed (most + 8) after.power new answers places after.outcome (end_fate prefix s turn)
  meets None s turn places heard most calls t said after sent new answers acted = uncut_meets None s turn places heard most calls t said after sent new answers refl acted
  meets (Some (Cut call fill)) s turn places heard most calls t said after sent new answers acted = uncut_meets (Some (Cut call fill)) s turn places heard most calls t said after sent new answers refl acted
  meets (Some (Fail call fill)) s turn places heard most calls t said after sent new answers acted = uncut_meets (Some (Fail call fill)) s turn places heard most calls t said after sent new answers refl acted
  meets (Some CutAfter) s turn places heard most calls t said after sent new answers acted = after_meets s turn places heard most calls t said after sent new answers acted
