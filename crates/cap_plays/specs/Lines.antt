-- What a line of one terminal says follows from what its calls say, step by step.
use Rattle.std.proofs.Common.{◌≡◌, ℕ, ◌-◌, ◌≤◌, ◌<◌, Bool, true, false, List, [], ◌∷◌, ◌++◌, refl, sym, ◌∙◌, ap, subst, append-nil, arith}
use Rattle.std.specs.Prelude.{Result, Ok, Err, nat_le, Some, None}
use Rattle.std.proofs.lemmas.Bool.{cond-true, cond-false, le-leb, lt-leb}
use Rattle.cap_msgs.specs.declared.message.Message.{Message}
use Rattle.cap_entries.specs.declared.terminal.TermEntry.{TermEntry}
use Rattle.cap_entries.specs.declared.host.HostEntry.{HostEntry}
use Rattle.cap_disk.specs.Disk.{Counts}
use Rattle.cap_ledger.specs.Adding.{calls_for}
use Rattle.cap_journal.specs.Told.{StopsAt}
use Rattle.cap_schedule.specs.declared.outcome.Outcome.{Outcome}
use Rattle.cap_world.specs.World.{TerminalState, HostState}
use Rattle.cap_plays.specs.declared.fault.LineFault.{LineFault}
use Rattle.cap_plays.specs.declared.fault.LineFault.TheVariants.{Disk}
use Rattle.cap_plays.specs.Turns.{Work, worked, Turn, HostWork}
use Rattle.cap_plays.specs.Plays.{Doubt, no_doubt}
use Rattle.cap_plays.specs.Corresponds.{EachHas, EachHasEither, TerminalCorresponds, end_in, EndCorresponds, host_in}
use Rattle.cap_plays.specs.Calls.{Added, Broke, LineSays, HostLineSays}
use Rattle.cap_plays.specs.Holding.{end_added, end_broken}
use Rattle.cap_plays.specs.Ends.{call_done, call_broken}

module _ (has : List ℕ → List TermEntry → Type 0) (answers : List Message) (places : List ℕ) where
  abbrev pub Stands : (List ℕ → Type 0) → List TermEntry → List Message → Bool → TerminalState → Doubt → Type 0
  Stands images entries sent on s doubt = TerminalCorresponds has images on entries sent answers s places doubt

  -- a line that makes no step, or no further one
  pub said_line : (images : List ℕ → Type 0) (entries : List TermEntry) (sent : List Message) (s : TerminalState) (outcome ended : Outcome) (c : ℕ)
      → Stands images entries sent true s (no_doubt 0) → LineSays (Stands images entries sent) ended (end_in s [] outcome ended c) (Ok outcome)
  said_line images entries sent s outcome ended c stands = (stands, refl)

  -- a device call failed in a line's first step
  pub broken_line : (before_images images : List ℕ → Type 0) (old new : List TermEntry) (sent : List Message) (before : Counts) (s : TerminalState) (work : Work) (works : List Work) (outcome ended : Outcome) (c : ℕ)
      → Stands before_images old sent true s (no_doubt 0) → calls_for work.added ≡ 4 → StopsAt c before → Broke has images old work.added before
      → LineSays (Stands images new sent) ended (end_in s (work ∷ works) outcome ended c) (Err Disk)
  broken_line before_images images old new sent before s work works outcome ended c stands four stops broke =
      let high : c ≤ 4 = broke.within c stops in
      let is : old ≡ s.settled = stands.end.entries_are refl in
      let each : EachHasEither has images s.settled (s.settled ++ work.added) = subst (λ l. EachHasEither has images l (l ++ work.added)) is broke.each in
      let broken = call_broken has images before_images old new sent answers s places (no_doubt 0) work stands each in
      let hit : nat_le c (calls_for work.added) ≡ true = subst (λ n. nat_le c n ≡ true) (sym four) (le-leb c 4 high) in
      subst (λ f. LineSays (Stands images new sent) ended f (Err Disk)) (sym (cond-true (nat_le c (calls_for work.added)) _ _ hit)) (broken, refl)

  -- a line's first step added its entries, and the line goes on
  pub added_line : (before_images images : List ℕ → Type 0) (old new : List TermEntry) (sent sent_now : List Message) (before now : Counts) (s : TerminalState) (work : Work) (rest : Turn) (ended : Outcome) (c : ℕ)
      (stands_last : Bool → TerminalState → Doubt → Type 0) (result : Result Outcome LineFault)
      → Stands before_images old sent true s (no_doubt 0) → calls_for work.added ≡ 4 → 1 ≤ c → StopsAt c before → Added has images old new work.added before now → sent_now ≡ sent ++ work.sent
      → ((d : ℕ) → 1 ≤ d → StopsAt d now → Stands images new sent_now true (worked s work) (no_doubt 0) → LineSays stands_last ended (end_in (worked s work) rest.works rest.outcome ended d) result)
      → LineSays stands_last ended (end_in s (work ∷ rest.works) rest.outcome ended c) result
  added_line before_images images old new sent sent_now before now s work rest ended c stands_last result stands four low stops added sent_is goes_on =
      let some : 0 < c = omega (arith, low) in
      let later = added.later c stops some in
      let lt : 4 < c = later.0 in
      let d : ℕ = c - 4 in
      let positive : 1 ≤ d = omega (arith, lt) in
      let is : old ≡ s.settled = stands.end.entries_are refl in
      let grown : new ≡ s.settled ++ work.added = added.grown ∙ ap (λ l. l ++ work.added) is in
      let next : Stands images new sent_now true (worked s work) (no_doubt 0) =
      call_done has images before_images old new sent sent_now answers s places (no_doubt 0) work stands grown (sent_is ∙ ap (λ l. l ++ work.sent) stands.sent_is) added.each in
      let past : nat_le c (calls_for work.added) ≡ false = subst (λ n. nat_le c n ≡ false) (sym four) (lt-leb c 4 lt) in
      let after : c - calls_for work.added ≡ d = ap (λ n. c - n) four in
      subst (λ f. LineSays stands_last ended f result) (sym (cond-false (nat_le c (calls_for work.added)) _ _ past))
      (subst (λ n. LineSays stands_last ended (end_in (worked s work) rest.works rest.outcome ended n) result) (sym after) (goes_on d positive later.1 next))

  -- a line's first step adds nothing: it sends, or hears what adds nothing
  pub quiet_line : (images : List ℕ → Type 0) (entries : List TermEntry) (sent sent_now : List Message) (s : TerminalState) (work : Work) (rest : Turn) (ended : Outcome) (c : ℕ)
      (stands_last : Bool → TerminalState → Doubt → Type 0) (result : Result Outcome LineFault)
      → Stands images entries sent true s (no_doubt 0) → work.added ≡ [] → 1 ≤ c → EachHas has images entries → sent_now ≡ sent ++ work.sent
      → (Stands images entries sent_now true (worked s work) (no_doubt 0) → LineSays stands_last ended (end_in (worked s work) rest.works rest.outcome ended c) result)
      → LineSays stands_last ended (end_in s (work ∷ rest.works) rest.outcome ended c) result
  quiet_line images entries sent sent_now s work rest ended c stands_last result stands none low each sent_is goes_on =
      let is : entries ≡ s.settled ++ work.added = stands.end.entries_are refl ∙ sym (append-nil s.settled) ∙ ap (λ l. s.settled ++ l) (sym none) in
      let next : Stands images entries sent_now true (worked s work) (no_doubt 0) =
      call_done has images images entries entries sent sent_now answers s places (no_doubt 0) work stands is (sent_is ∙ ap (λ l. l ++ work.sent) stands.sent_is) each in
      let zero_calls : calls_for work.added ≡ 0 = ap (λ (l : List TermEntry). calls_for l) none in
      let positive : 0 < c = omega (arith, low) in
      let past : nat_le c (calls_for work.added) ≡ false = subst (λ n. nat_le c n ≡ false) (sym zero_calls) (lt-leb c 0 positive) in
      let same : c - calls_for work.added ≡ c = ap (λ n. c - n) zero_calls ∙ (let e : c - 0 ≡ c = omega arith in e) in
      subst (λ f. LineSays stands_last ended f result) (sym (cond-false (nat_le c (calls_for work.added)) _ _ past))
      (subst (λ n. LineSays stands_last ended (end_in (worked s work) rest.works rest.outcome ended n) result) (sym same) (goes_on next))

module _ (has : List ℕ → List HostEntry → Type 0) where
  abbrev pub HostStands : (List ℕ → Type 0) → List HostEntry → Bool → HostState → Doubt → Type 0
  HostStands images entries on s doubt = EndCorresponds has images on entries s.settled s.tried s.on doubt

  -- a line of the host that makes no step
  pub host_said_line : (images : List ℕ → Type 0) (entries : List HostEntry) (host : HostState) (outcome ended : Outcome) (c : ℕ)
      → HostStands images entries true host (no_doubt 0) → HostLineSays (HostStands images entries) ended (host_in host None outcome ended c) 0 [] false (Ok outcome)
  host_said_line images entries host outcome ended c stands = (stands, refl, refl, refl, refl)

  -- a device call of its step failed
  pub host_broken_line : (before_images images : List ℕ → Type 0) (old new : List HostEntry) (before : Counts) (host : HostState) (work : HostWork) (outcome ended : Outcome) (c receiver : ℕ) (replies : List Message) (counts : Bool)
      → HostStands before_images old true host (no_doubt 0) → calls_for work.added ≡ 4 → StopsAt c before → Broke has images old work.added before
      → HostLineSays (HostStands images new) ended (host_in host (Some work) outcome ended c) receiver replies counts (Err Disk)
  host_broken_line before_images images old new before host work outcome ended c receiver replies counts stands four stops broke =
      let high : c ≤ 4 = broke.within c stops in
      let is : old ≡ host.settled = stands.entries_are refl in
      let each : EachHasEither has images host.settled (host.settled ++ work.added) = subst (λ l. EachHasEither has images l (l ++ work.added)) is broke.each in
      let hit : nat_le c (calls_for work.added) ≡ true = subst (λ n. nat_le c n ≡ true) (sym four) (le-leb c 4 high) in
      subst (λ f. HostLineSays (HostStands images new) ended f receiver replies counts (Err Disk)) (sym (cond-true (nat_le c (calls_for work.added)) _ _ hit))
      (end_broken has images new host.settled work.added each, refl, refl, refl, refl)

  host_past : (images : List ℕ → Type 0) (new : List HostEntry) (host : HostState) (work : HostWork) (outcome ended : Outcome) (c : ℕ)
      → new ≡ host.settled ++ work.added → EachHas has images new → nat_le c (calls_for work.added) ≡ false
      → HostLineSays (HostStands images new) ended (host_in host (Some work) outcome ended c) work.receiver work.replies work.counts (Ok outcome)
  host_past images new host work outcome ended c grown each past =
      subst (λ f. HostLineSays (HostStands images new) ended f work.receiver work.replies work.counts (Ok outcome)) (sym (cond-false (nat_le c (calls_for work.added)) _ _ past))
      (end_added has images new host.settled work.added grown each, refl, refl, refl, refl)

  -- its step added its entries
  pub host_added_line : (before_images images : List ℕ → Type 0) (old new : List HostEntry) (before now : Counts) (host : HostState) (work : HostWork) (outcome ended : Outcome) (c : ℕ)
      → HostStands before_images old true host (no_doubt 0) → calls_for work.added ≡ 4 → 1 ≤ c → StopsAt c before → Added has images old new work.added before now
      → HostLineSays (HostStands images new) ended (host_in host (Some work) outcome ended c) work.receiver work.replies work.counts (Ok outcome)
  host_added_line before_images images old new before now host work outcome ended c stands four low stops added =
      let some : 0 < c = omega (arith, low) in
      let lt : 4 < c = (added.later c stops some).0 in
      let grown : new ≡ host.settled ++ work.added = added.grown ∙ ap (λ l. l ++ work.added) (stands.entries_are refl) in
      let past : nat_le c (calls_for work.added) ≡ false = subst (λ n. nat_le c n ≡ false) (sym four) (lt-leb c 4 lt) in
      host_past images new host work outcome ended c grown added.each past

  -- its step adds nothing: an answer that takes no item
  pub host_quiet_line : (images : List ℕ → Type 0) (entries : List HostEntry) (host : HostState) (work : HostWork) (outcome ended : Outcome) (c : ℕ)
      → HostStands images entries true host (no_doubt 0) → work.added ≡ [] → 1 ≤ c → EachHas has images entries
      → HostLineSays (HostStands images entries) ended (host_in host (Some work) outcome ended c) work.receiver work.replies work.counts (Ok outcome)
  host_quiet_line images entries host work outcome ended c stands none low each =
      let grown : entries ≡ host.settled ++ work.added = stands.entries_are refl ∙ sym (append-nil host.settled) ∙ ap (λ l. host.settled ++ l) (sym none) in
      let positive : 0 < c = omega (arith, low) in
      let past : nat_le c (calls_for work.added) ≡ false = subst (λ n. nat_le c n ≡ false) (sym (ap (λ (l : List HostEntry). calls_for l) none)) (lt-leb c 0 positive) in
      host_past images entries host work outcome ended c grown each past
