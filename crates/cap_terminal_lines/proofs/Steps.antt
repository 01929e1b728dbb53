-- What a line of a terminal has done follows from what its calls did, step by step.
use Rattle.std.proofs.Common.{◌≡◌, inl, ⊎_elim, ℕ, ◌+◌, ◌-◌, ◌^◌, ◌≤◌, ◌<◌, Bool, true, false, List, [], ◌∷◌, ◌++◌, Option, Some, None, Ok, Err, refl, sym, ◌∙◌, ap, subst, arith, append-nil, IsTrue, leb-true}
use Rattle.std.specs.Prelude.{Result, OnOk, IsSome, IsSomeAnd, nat_le}
use Rattle.std.proofs.lemmas.Bool.{cond-true, cond-false, le-leb, lt-leb}
use Rattle.std.proofs.lemmas.Bool.Decides.{nat_tests}
use Rattle.cap_disk.specs.Disk.{Counts}
use Rattle.cap_journal.specs.declared.journal.Journal.{Ghosts}
use Rattle.cap_journal.specs.File.{Has}
use Rattle.cap_journal.specs.Told.{StopsWithin, counted, StopsAt}
use Rattle.cap_journal.specs.Seen.{CountsTrying, IsTrying}
use Rattle.cap_msgs.specs.declared.message.Message.{Message}
use Rattle.cap_entries.specs.declared.terminal.TermEntry.{TermEntry}
use Rattle.cap_entries.specs.TermRecord.{term_reading}
use Rattle.cap_answering.specs.declared.fault.HostFault.{HostFault}
use Rattle.cap_answering.specs.declared.fault.HostFault.TheVariants as H
use Rattle.cap_ledger.specs.Adding.{calls_for}
use Rattle.cap_terminal.specs.Adding.{Adds}
use Rattle.cap_schedule.specs.declared.outcome.Outcome.{Outcome}
use Rattle.cap_world.specs.World.{TerminalState, TerminalAction}
use Rattle.cap_plays.specs.declared.fault.LineFault.{LineFault}
use Rattle.cap_plays.specs.declared.fault.LineFault.TheVariants.{Disk, Memory}
use Rattle.cap_plays.specs.Turns.{Work, Turn, worked, says, behind}
use Rattle.cap_plays.specs.Plays.{no_doubt}
use Rattle.cap_plays.specs.Corresponds.{Holds, EachHas, EachHasEither, TerminalCorresponds, EndFate, end_in}
use Rattle.cap_plays.specs.Holding.{holds_settled}
use Rattle.cap_plays.specs.Ends.{call_done, call_broken}
use Rattle.cap_terminal_lines.specs.declared.said.Said.{Said}
use Rattle.cap_plays.specs.Texts.{IsSent}
use Rattle.cap_plays.specs.Armed.{IsArmed}
use Rattle.cap_terminal_lines.specs.Acts.{end_armed, IsReady, LineDone, AddDone, Grew, Broke, Rested}

-- a step that adds an entry
abbrev pub added_by : TerminalAction → TermEntry → Work
added_by action entry = record { action = action; added = entry ∷ []; sent = [] }

abbrev IsNear : Counts → Option ℕ → Type 0
IsNear before stop = IsSomeAnd stop (λ s. (before.calls < s) × (s ≤ before.calls + 4))

beyond_four : (c : ℕ) (before : Counts) → 1 ≤ c → StopsAt c before → (StopsWithin 4 before → ⊥) → 4 < c
beyond_four c before low stops past = by_test (nat_le c 4) refl
  where
    within : c ≤ 4 → StopsWithin 4 before
    within le = subst (λ (s : Option ℕ). IsNear before s) (sym stops) (omega (arith, low), omega (arith, le))

    by_test : (b : Bool) → nat_le c 4 ≡ b → 4 < c
    by_test true is = absurd (past (within (leb-true c 4 is)))
    by_test false is = grind (arith, nat_tests)

-- what is armed after four calls that went well
pub record Left (armed : Option ℕ) (before : Counts) : Type 0 where
  pub left : Option ℕ
  pub is_armed : IsArmed left (counted 4 before)
  pub some : IsSome left → IsSome armed
  pub fate : (s : TerminalState) (work : Work) (rest : Turn) (ended : Outcome) → calls_for work.added ≡ 4 → end_armed armed s (behind work rest) ended ≡ end_armed left (worked s work) rest ended

fate_past : (c n : ℕ) (s : TerminalState) (work : Work) (rest : Turn) (ended : Outcome) → n < c → calls_for work.added ≡ n → end_in s (work ∷ rest.works) rest.outcome ended c ≡ end_in (worked s work) rest.works rest.outcome ended (c - n)
fate_past c n s work rest ended lt calls =
    let past : nat_le c (calls_for work.added) ≡ false = subst (λ (k : ℕ). nat_le c k ≡ false) (sym calls) (lt-leb c n lt) in
    cond-false (nat_le c (calls_for work.added)) _ _ past ∙ ap (λ (k : ℕ). end_in (worked s work) rest.works rest.outcome ended (c - k)) calls

pub left_of : (armed : Option ℕ) (before : Counts) → IsArmed armed before → (StopsWithin 4 before → ⊥) → Left armed before
left_of None before none past = record { left = None; is_armed = none; some = λ is. is; fate = λ s work rest ended four. refl }
left_of (Some c) before is past =
    let lt : 4 < c = beyond_four c before is.0 is.1 past in
    let split : before.calls + c ≡ before.calls + 4 + (c - 4) = omega (arith, lt) in
    record {
      left = Some (c - 4);
      is_armed = (omega (arith, lt), is.1 ∙ ap (λ (k : ℕ). Some k) split);
      some = λ some. refl;
      fate = λ s work rest ended four. fate_past c 4 s work rest ended lt four;
    }

-- a step that adds nothing makes no call
pub fate_quiet : (armed : Option ℕ) (before : Counts) (s : TerminalState) (work : Work) (rest : Turn) (ended : Outcome) → IsArmed armed before → calls_for work.added ≡ 0 → end_armed armed s (behind work rest) ended ≡ end_armed armed (worked s work) rest ended
fate_quiet None before s work rest ended none zero = refl
fate_quiet (Some c) before s work rest ended is zero =
    let positive : 0 < c = omega (arith, is.0) in
    let same : c - 0 ≡ c = omega arith in
    fate_past c 0 s work rest ended positive zero ∙ ap (λ (k : ℕ). end_in (worked s work) rest.works rest.outcome ended k) same

-- the numbers of the disk in a call
tried : (n : ℕ) (old new : Option Counts) (ok disk memory would : Type 0) (before : Counts) → old ≡ Some before → before.calls + n < 2 ^ 64 → IsTrying n old new ok disk memory would → CountsTrying n before new ok disk memory would
tried n old new ok disk memory would before is few trying = (subst (λ (k : Option Counts). IsTrying n k new ok disk memory would) is trying) few

abbrev done : Result (Unit {0}) HostFault
done = Ok tt

abbrev failed_by : HostFault → Result (Unit {0}) HostFault
failed_by fault = Err fault

-- what works after one call works after the next
pub works_behind : {T F : Type 0} (result : Result T F) (before mid after : Bool) → mid ≡ before → OnOk result (after ≡ mid) → OnOk result (after ≡ before)
works_behind (Ok v) before mid after first then = then ∙ first
works_behind (Err e) before mid after first then = tt

module _ {J : Type 0} (g : Ghosts J TermEntry) where
  abbrev pub Ready : ℕ → J → List Message → TerminalState → List ℕ → Option ℕ → Counts → Type 0
  Ready n now heard s places armed before = IsReady g n now heard s places armed before

  abbrev pub Line : ℕ → J → List Message → TerminalState → List ℕ → Option ℕ → Outcome → Counts → Turn → Result Said LineFault → Type 0
  Line n now heard s places armed ended before turn result = LineDone g n now heard s places armed ended before turn result

  abbrev StandsAt : J → List Message → List ℕ → Bool → EndFate → Type 0
  StandsAt now heard places on fate = TerminalCorresponds (Has term_reading) (g.may_leave now) on (g.entries now) fate.state.sent heard fate.state places fate.doubt

  abbrev pub Grows : J → J → List TermEntry → Counts → Type 0
  Grows old new added before = Grew g old new added before

  abbrev pub Breaks : J → J → List TermEntry → Counts → Type 0
  Breaks old new added before = Broke g old new added before

  abbrev pub Rests : J → J → Counts → Type 0
  Rests old new before = Rested g old new before

  -- what a call says where nothing failed before it, of a disk whose numbers are these
  abbrev pub Where : J → (Counts → Type 0) → Type 0
  Where old P = (before : Counts) → g.counts old ≡ Some before → before.calls + 4 < 2 ^ 64 → IsTrue (g.tells old) → g.has_failed old ≡ false → P before

  -- the terminal's entries are those of the state
  pub settled_are : (n : ℕ) (now : J) (heard : List Message) (s : TerminalState) (places : List ℕ) (armed : Option ℕ) (before : Counts) → Ready n now heard s places armed before → g.entries now ≡ s.settled
  settled_are n now heard s places armed before ready = ready.stands.end.entries_are refl

  pub grown_ready : (n : ℕ) (old new : J) (heard : List Message) (s : TerminalState) (places : List ℕ) (armed : Option ℕ) (before : Counts) (work : Work) (left : Left armed before)
      → Ready (n + 4) old heard s places armed before → Grows old new work.added before → Ready n new heard (worked s work) places left.left (counted 4 before)
  grown_ready n old new heard s places armed before work left ready grew =
      let is : g.entries old ≡ s.settled = ready.stands.end.entries_are refl in
      let few : before.calls + (n + 4) < 2 ^ 64 = ready.few in
      record {
        told = grew.told;
        works = grew.works;
        counts_are = grew.counts_are;
        few = omega (arith, few);
        is_armed = left.is_armed;
        stands = call_done (Has term_reading) (g.may_leave new) (g.may_leave old) (g.entries old) (g.entries new) s.sent (s.sent ++ work.sent) heard s places (no_doubt 0) work ready.stands (grew.grown ∙ ap (λ (l : List TermEntry). l ++ work.added) is) refl grew.each;
      }

  pub rested_ready : (n : ℕ) (old new : J) (heard : List Message) (s : TerminalState) (places : List ℕ) (armed : Option ℕ) (before : Counts)
      → Ready n old heard s places armed before → Rests old new before → Ready n new heard s places armed before
  rested_ready n old new heard s places armed before ready rested =
      let is : g.entries old ≡ s.settled = ready.stands.end.entries_are refl in
      let none : s.tried ≡ [] = ready.stands.end.none_tried refl in
      let each : EachHas (Has term_reading) (g.may_leave new) s.settled = subst (λ (l : List TermEntry). EachHas (Has term_reading) (g.may_leave new) l) (rested.same ∙ is) rested.each in
      record {
        told = rested.told;
        works = rested.works;
        counts_are = rested.counts_are;
        few = ready.few;
        is_armed = ready.is_armed;
        stands = record {
          end = record {
            on_is = ready.stands.end.on_is;
            entries_are = λ on. rested.same ∙ is;
            none_tried = λ on. none;
            holds = subst (λ (l : List TermEntry). Holds (Has term_reading) (g.may_leave new) s.settled l (no_doubt 0)) (sym none) (holds_settled (Has term_reading) (g.may_leave new) s.settled each);
          };
          sent_is = refl;
          answers_are = ready.stands.answers_are;
        };
      }

  -- a line that makes no step, or no further one
  pub said_line : (n : ℕ) (now : J) (heard : List Message) (s : TerminalState) (places : List ℕ) (armed : Option ℕ) (ended : Outcome) (before : Counts) (outcome : Outcome) (given : Said)
      → Ready n now heard s places armed before → given ≡ record { outcome = outcome; sent = None } → Line n now heard s places armed ended before (says outcome) (Ok given)
  said_line n now heard s places None ended before outcome given ready is = record {
    told = ready.told;
    works = ready.works;
    after = before;
    counts_are = ready.counts_are;
    goes_on = record { stop = refl; later = omega arith; few = omega arith };
    stands = ready.stands;
    outcome_is = ap (λ (d : Said). d.outcome) is;
    sent_is = subst (λ (d : Said). IsSent d.sent []) (sym is) tt;
  }
  said_line n now heard s places (Some c) ended before outcome given ready is = record {
    told = ready.told;
    works = ready.works;
    after = before;
    counts_are = ready.counts_are;
    goes_on = record { stop = refl; later = omega arith; few = omega arith };
    stands = ready.stands;
    outcome_is = ap (λ (d : Said). d.outcome) is;
    sent_is = subst (λ (d : Said). IsSent d.sent []) (sym is) tt;
  }

  -- the line goes on behind a step that added an entry
  pub line_behind : (n : ℕ) (now : J) (heard : List Message) (s : TerminalState) (places : List ℕ) (armed : Option ℕ) (ended : Outcome) (before : Counts) (left : Left armed before) (action : TerminalAction) (entry : TermEntry) (rest : Turn) (result : Result Said LineFault)
      → Line n now heard (worked s (added_by action entry)) places left.left ended (counted 4 before) rest result → Line (n + 4) now heard s places armed ended before (behind (added_by action entry) rest) result
  line_behind n now heard s places armed ended before left action entry rest (Ok given) done =
      let same : end_armed armed s (behind (added_by action entry) rest) ended ≡ end_armed left.left (worked s (added_by action entry)) rest ended = left.fate s (added_by action entry) rest ended refl in
      let later : before.calls + 4 ≤ done.after.calls = done.goes_on.later in
      let few : done.after.calls ≤ before.calls + 4 + n = done.goes_on.few in
      record {
        told = done.told;
        works = done.works;
        after = done.after;
        counts_are = done.counts_are;
        goes_on = record { stop = done.goes_on.stop; later = omega (arith, later); few = omega (arith, few) };
        stands = subst (λ (f : EndFate). StandsAt now heard places true f) (sym same) done.stands;
        outcome_is = done.outcome_is ∙ ap (λ (f : EndFate). f.outcome) (sym same);
        sent_is = done.sent_is;
      }
  line_behind n now heard s places armed ended before left action entry rest (Err Disk) broken =
      let same : end_armed armed s (behind (added_by action entry) rest) ended ≡ end_armed left.left (worked s (added_by action entry)) rest ended = left.fate s (added_by action entry) rest ended refl in
      record {
        some = left.some broken.some;
        stands = subst (λ (f : EndFate). StandsAt now heard places false f) (sym same) broken.stands;
        outcome_is = broken.outcome_is ∙ ap (λ (f : EndFate). f.outcome) (sym same);
      }
  line_behind n now heard s places armed ended before left action entry rest (Err Memory) nothing = tt

  -- a device call failed in its first step
  pub broken_line : (n m : ℕ) (old now : J) (heard : List Message) (s : TerminalState) (places : List ℕ) (armed : Option ℕ) (ended : Outcome) (before : Counts) (action : TerminalAction) (entry : TermEntry) (rest : Turn)
      → Ready n old heard s places armed before → Breaks old now (entry ∷ []) before → Line m now heard s places armed ended before (behind (added_by action entry) rest) (Err Disk)
  broken_line n m old now heard s places None ended before action entry rest ready broke = absurd (subst (λ (k : Option ℕ). IsNear before k) ready.is_armed broke.within)
  broken_line n m old now heard s places (Some c) ended before action entry rest ready broke =
      let is : g.entries old ≡ s.settled = ready.stands.end.entries_are refl in
      let near : (before.calls < before.calls + c) × (before.calls + c ≤ before.calls + 4) = subst (λ (k : Option ℕ). IsNear before k) ready.is_armed.1 broke.within in
      let high : c ≤ 4 = omega (arith, near.1) in
      let same : end_armed (Some c) s (behind (added_by action entry) rest) ended ≡ _ = cond-true (nat_le c 4) _ _ (le-leb c 4 high) in
      let either : EachHasEither (Has term_reading) (g.may_leave now) s.settled (s.settled ++ entry ∷ []) = subst (λ (l : List TermEntry). EachHasEither (Has term_reading) (g.may_leave now) l (l ++ entry ∷ [])) is broke.either in
      record {
        some = refl;
        stands = subst (λ (f : EndFate). StandsAt now heard places false f) (sym same) (call_broken (Has term_reading) (g.may_leave now) (g.may_leave old) (g.entries old) (g.entries now) s.sent heard s places (no_doubt 0) (added_by action entry) ready.stands either);
        outcome_is = ap (λ (f : EndFate). f.outcome) (sym same);
      }

  -- a line of one step that adds an entry
  pub add_ok : (old new : J) (entry : TermEntry) (outcome : Outcome) (given : Said) → given ≡ record { outcome = outcome; sent = None }
      → Where old (λ before. Grows old new (entry ∷ []) before) → AddDone g old new (entry ∷ []) outcome (Ok given)
  add_ok old new entry outcome given is grows = λ action heard s places armed ended before ready.
      let grew : Grows old new (entry ∷ []) before = grows before ready.counts_are ready.few ready.told ready.works in
      let left : Left armed before = left_of armed before ready.is_armed grew.past in
      line_behind 0 new heard s places armed ended before left action entry (says outcome) (Ok given)
      (said_line 0 new heard (worked s (added_by action entry)) places left.left ended (counted 4 before) outcome given (grown_ready 0 old new heard s places armed before (added_by action entry) left ready grew) is)

  pub add_disk : (old new : J) (entry : TermEntry) (outcome : Outcome) → Where old (λ before. Breaks old new (entry ∷ []) before) → AddDone g old new (entry ∷ []) outcome (Err Disk)
  add_disk old new entry outcome breaks = λ action heard s places armed ended before ready.
      broken_line 4 4 old new heard s places armed ended before action entry (says outcome) ready (breaks before ready.counts_are ready.few ready.told ready.works)

  -- the laws of a journal that a line rests on
  abbrev pub Kept : Type 0
  Kept = (journal : J) (image : List ℕ) → IsTrue (g.tells journal) → g.has_failed journal ≡ false → g.may_leave journal image → Has term_reading image (g.entries journal)

  abbrev pub CountsNow : Type 0
  CountsNow = (journal : J) (t : ℕ) (image : List ℕ) → IsTrue (g.tells journal) → t ≤ g.moment journal → g.may_leave journal image → g.left_since journal t image

  abbrev pub ToldIsReadable : Type 0
  ToldIsReadable = (journal : J) → IsTrue (g.tells journal) → IsTrue (g.is_readable journal)

  -- a call added an entry
  pub grew : Kept → ToldIsReadable → (old new : J) (entry : TermEntry) → Adds g old new (entry ∷ []) done → Where old (λ before. Grows old new (entry ∷ []) before)
  grew kept readable old new entry adds = λ before is few told worked.
      let h = tried 4 (g.counts old) (g.counts new) _ _ _ _ before is few adds.counts in
      let told_now : IsTrue (g.tells new) = adds.stays.tells ∙ told in
      let works : g.has_failed new ≡ false = adds.stays.still (λ e. cc) ∙ worked in
      record {
        told = told_now;
        works = works;
        counts_are = h.added refl;
        past = λ within. ⊎_elim (λ e. cc) (λ e. cc) (h.goes_on (worked, λ e. cc) within);
        grown = adds.grown (readable old told);
        each = λ image left. kept new image told_now works left;
      }

  -- a device call of it failed
  pub broke : Kept → CountsNow → (old new : J) (entry : TermEntry) (fault : HostFault) → fault ≡ H.Disk → Adds g old new (entry ∷ []) (failed_by fault) → Where old (λ before. Breaks old new (entry ∷ []) before)
  broke kept counts_now old new entry fault disk adds = λ before is few told worked.
      let h = tried 4 (g.counts old) (g.counts new) _ _ _ _ before is few adds.counts in
      let told_now : IsTrue (g.tells new) = adds.stays.tells ∙ told in
      let only = adds.images told in
      record {
        within = (h.stopped (ap (λ (f : HostFault). failed_by f) disk)).1;
        either = λ image left. ⊎_elim (λ earlier. inl (kept old image told worked earlier)) (λ now. now) (only.each image (counts_now new (g.moment old) image told_now only.later left));
      }

  -- a refusal is no failure of the disk
  pub still_works : (old new : J) (added : List TermEntry) (fault : HostFault) → fault ≡ H.Memory → Adds g old new added (failed_by fault) → g.has_failed new ≡ g.has_failed old
  still_works old new added fault lack adds = adds.stays.still (λ e. cc)

  unchanged : Kept → (old new : J) (added : List TermEntry) (result : Result (Unit {0}) HostFault) → Adds g old new added result → (result ≡ failed_by H.Disk → ⊥) → g.entries new ≡ g.entries old
      → (before : Counts) → g.counts new ≡ Some before → IsTrue (g.tells old) → g.has_failed old ≡ false → Rests old new before
  unchanged kept old new added result adds no_disk same before counts_are told worked =
      let told_now : IsTrue (g.tells new) = adds.stays.tells ∙ told in
      let works : g.has_failed new ≡ false = adds.stays.still no_disk ∙ worked in
      record { told = told_now; works = works; counts_are = counts_are; same = same; each = λ image left. kept new image told_now works left }

  -- it was refused
  pub rested : Kept → (old new : J) (entry : TermEntry) (fault : HostFault) → fault ≡ H.Memory → Adds g old new (entry ∷ []) (failed_by fault) → Where old (λ before. Rests old new before)
  rested kept old new entry fault lack adds = λ before is few told worked.
      let sure : Adds g old new (entry ∷ []) (failed_by H.Memory) = subst (λ (f : HostFault). Adds g old new (entry ∷ []) (failed_by f)) lack adds in
      let h = tried 4 (g.counts old) (g.counts new) _ _ _ _ before is few sure.counts in
      unchanged kept old new (entry ∷ []) (failed_by H.Memory) sure (λ e. cc) sure.stays.refused before (h.other (λ e. cc) (λ e. cc)) told worked

  -- nothing was to be added
  pub rested_none : Kept → ToldIsReadable → (old new : J) (result : Result (Unit {0}) HostFault) → Adds g old new [] result → Where old (λ before. Rests old new before)
  rested_none kept readable old new (Ok tt) adds = λ before is few told worked.
      let h = tried 0 (g.counts old) (g.counts new) _ _ _ _ before is (omega (arith, few)) adds.counts in
      let plus : before.calls + 0 ≡ before.calls = omega arith in
      let counts_are : g.counts new ≡ Some before = h.added refl ∙ ap (λ (n : ℕ). let k : Counts = record { calls = n; stop = before.stop } in Some k) plus in
      unchanged kept old new [] done adds (λ e. cc) (adds.grown (readable old told) ∙ append-nil (g.entries old)) before counts_are told worked
  rested_none kept readable old new (Err H.Disk) adds = λ before is few told worked.
      let h = tried 0 (g.counts old) (g.counts new) _ _ _ _ before is (omega (arith, few)) adds.counts in
      absurd ((h.stopped refl).0.1 refl)
  rested_none kept readable old new (Err H.Failed) adds = λ before is few told worked. absurd ((adds.failed_before refl).1 refl)
  rested_none kept readable old new (Err H.Memory) adds = λ before is few told worked.
      let h = tried 0 (g.counts old) (g.counts new) _ _ _ _ before is (omega (arith, few)) adds.counts in
      unchanged kept old new [] (failed_by H.Memory) adds (λ e. cc) adds.stays.refused before (h.other (λ e. cc) (λ e. cc)) told worked
