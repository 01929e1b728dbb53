-- A line at the host of the network, what arrives at a terminal by it, and the host's opening.
use Rattle.std.specs.Prelude.{◌≡◌, ◌⊎◌, ℕ, suc, ◌+◌, ◌^◌, ◌≤◌, ◌<◌, Bool, true, false, if◌then◌else◌, nat_le, nat_lt, List, [], ◌∷◌, ◌++◌, length, take, Option, Some, None, slice_get, slice_set}
use Rattle.std.proofs.Common.{Vec, Global, refl, sym, ◌∙◌, ap, subst, inl, inr, ⊎_elim, get_or, arith}
use Rattle.std.proofs.lemmas.Bool.{cond_both}
use Rattle.std.proofs.lemmas.Option.{slice_get_within, slice_get_past, slice_get_cases}
use Rattle.std.proofs.lemmas.List.{length-map}
use Rattle.cap_leaf.specs.Date.{DateParts}
use Rattle.cap_msgs.specs.declared.message.Message.{Message}
use Rattle.cap_msgs.specs.Moment.{IsMoment}
use Rattle.cap_msgs.specs.Received.{Received}
use Rattle.cap_disk.specs.declared.memory.MemoryDisk.{MemoryDisk}
use Rattle.cap_entries.specs.declared.terminal.TermEntry.{TermEntry}
use Rattle.cap_entries.specs.declared.host.HostEntry.{HostEntry}
use Rattle.cap_entries.specs.Log.{published}
use Rattle.cap_ledger.specs.Adding.{calls_for}
use Rattle.cap_schedule.specs.declared.outcome.Outcome.{Outcome}
use Rattle.cap_schedule.specs.declared.schedule.End.TheVariants.{Host, Terminal}
use Rattle.cap_schedule.specs.declared.schedule.HostOrder.{HostOrder}
use Rattle.cap_schedule.specs.declared.schedule.HostOrder.TheVariants as W
use Rattle.cap_schedule.specs.declared.schedule.Prefix.{Prefix}
use Rattle.cap_schedule.specs.declared.schedule.Prefix.TheVariants.{Cut, Fail, CutAfter}
use Rattle.cap_schedule.specs.Reader.{IsReader}
use Rattle.cap_world.specs.World.{TerminalState, HostState}
use Rattle.cap_plays.specs.Turns.{Scene, counted_at, places_or_none, nth, HostWork, HostTurn, host_turn_of, answers_it, answers_terminal}
use Rattle.cap_plays.specs.Plays.{Doubt, no_doubt, host_reopened, Doubts, doubt_at, moment_of, arrived}
use Rattle.cap_plays.specs.Corresponds.{HostFate, host_fate, host_whole, host_in, host_cut_after, answered}
use Rattle.cap_plays.specs.Texts.{IsTextOf, AreTexts, texts_in, IsSent}
use Rattle.cap_plays.specs.Answers.{counted_still, counted_length}
use Rattle.cap_plays.specs.Session.{Acted, Reopened, ActsSo, ReopensSo}
use Rattle.cap_plays.specs.Hosts.{host_line, host_line_fate, host_acted, host_opening_line, host_was_reopened, host_closed, host_stays_on, answers_arrive, answers_are_dropped, no_answer_arrives}
use Rattle.cap_journal.specs.File.{Has}
use Rattle.cap_entries.specs.HostRecord.{host_reading}
use Rattle.cap_power.specs.Standing as S
use Rattle.cap_power.specs.declared.power.Power.{Power}
use Rattle.cap_power.specs.declared.power.Power.TheVariants.{On, Off}
use Rattle.cap_host_lines.specs.Acts.{counted_replies}
use Rattle.cap_host_side.specs.declared.side.Done.{Done}
use Rattle.cap_host_side.specs.Sides.{HostStands, sent_by_any, IsGiven, Does, Passes, Reopens}
use Rattle.cap_terminal_side.specs.declared.side.Side.{Side}
use Rattle.cap_replay.specs.Passed.{passed_over}
use Rattle.cap_network.specs.Arriving as A
use Rattle.cap_network.specs.Ends.{most_calls, TerminalStands, HostStandsAt, EndsStand}
use Rattle.cap_network.proofs.Surely.{stands_any}
use Rattle.cap_network.proofs.Raising.{fewer_calls, host_more, raised}

-- a fate of the host: nothing arrives, or what its line's step sends
abbrev pub Arrives : HostFate → HostState → HostTurn → Type 0
Arrives fate host turn = ((fate.counts ≡ false) × (fate.replies ≡ [])) ⊎ (fate ≡ host_whole host turn.work turn.outcome)

whole_arrives : (host : HostState) (turn : HostTurn) → Arrives (host_whole host turn.work turn.outcome) host turn
whole_arrives host turn = inr refl

in_arrives : (host : HostState) (work : Option HostWork) (outcome ended : Outcome) (c : ℕ)
    → ((host_in host work outcome ended c).counts ≡ false) × ((host_in host work outcome ended c).replies ≡ []) ⊎ (host_in host work outcome ended c ≡ host_whole host work outcome)
in_arrives host None outcome ended c = inr refl
in_arrives host (Some work) outcome ended c =
    cond_both (nat_le c (calls_for work.added)) _ _ (λ (f : HostFate). (f.counts ≡ false) × (f.replies ≡ []) ⊎ (f ≡ host_whole host (Some work) outcome)) (λ _. inl (refl, refl)) (λ _. inr refl)

after_arrives : (host : HostState) (work : Option HostWork) → ((host_cut_after host work).counts ≡ false) × ((host_cut_after host work).replies ≡ [])
after_arrives host None = (refl, refl)
after_arrives host (Some work) = (refl, refl)

fate_arrives : (prefix : Option Prefix) (host : HostState) (turn : HostTurn) → Arrives (host_fate prefix host turn) host turn
fate_arrives None host turn = inr refl
fate_arrives (Some (Cut call fill)) host turn = in_arrives host turn.work turn.outcome _ call
fate_arrives (Some (Fail call fill)) host turn = in_arrives host turn.work turn.outcome _ call
fate_arrives (Some CutAfter) host turn = inl (after_arrives host turn.work)

-- the step of a line sends one message that counts, or none that does
abbrev pub SendsTo : HostTurn → HostOrder → HostState → Scene → Type 0
SendsTo turn order host w =
    (message : Message) (more : List Message) → counted_replies (host_whole host turn.work turn.outcome) ≡ message ∷ more
    → (terminal : ℕ) × (which : ℕ) × (order ≡ W.Up terminal which) × ((host_whole host turn.work turn.outcome).receiver ≡ terminal) × ((s : TerminalState) × (slice_get w.terminals terminal ≡ Some s))
    × ((host_whole host turn.work turn.outcome).counts ≡ true)

none_sent : (message : Message) (more : List Message) → [] ≡ message ∷ more → ⊥
none_sent message more e = cc

it_sends : (host : HostState) (w : Scene) (moment : ℕ) (created : DateParts) (terminal which : ℕ) (counted : List ℕ) (s : TerminalState) (found : Option Message)
    → slice_get w.terminals terminal ≡ Some s → SendsTo (answers_it w.host.settled moment created terminal which counted found) (W.Up terminal which) host w
it_sends host w moment created terminal which counted s None there = λ message more e. absurd (none_sent message more e)
it_sends host w moment created terminal which counted s (Some found) there = λ message more e. (terminal, which, refl, refl, (s, there), refl)

terminal_sends : (host : HostState) (w : Scene) (moment : ℕ) (created : DateParts) (terminal which : ℕ) (counted : List ℕ) (found : Option TerminalState)
    → slice_get w.terminals terminal ≡ found → SendsTo (answers_terminal w.host.settled moment created terminal which counted found) (W.Up terminal which) host w
terminal_sends host w moment created terminal which counted None there = λ message more e. absurd (none_sent message more e)
terminal_sends host w moment created terminal which counted (Some s) there = it_sends host w moment created terminal which counted s (nth s.sent which) there

turn_sends : (reads : List ℕ → Received) (host : HostState) (w : Scene) (moment : ℕ) (created : DateParts) (order : HostOrder) → SendsTo (host_turn_of reads w moment created order) order host w
turn_sends reads host w moment created (W.Up terminal which) = terminal_sends host w moment created terminal which (counted_at w.counted terminal) (slice_get w.terminals terminal) refl
turn_sends reads host w moment created (W.Publish rows) =
    cond_both (nat_lt (length (published w.host.settled)) 10000) _ _ (λ turn. SendsTo turn (W.Publish rows) host w) (λ _. λ message more e. absurd (none_sent message more e)) (λ _. λ message more e. absurd (none_sent message more e))
turn_sends reads host w moment created (W.Listen bytes) = λ message more e. absurd (none_sent message more e)

-- a message that counts arrives at the terminal of the line
pub record Arrival (w : Scene) (order : HostOrder) (fate : HostFate) (message : Message) : Type 0 where
  pub terminal : ℕ
  pub which : ℕ
  pub is_up : order ≡ W.Up terminal which
  pub receiver_is : fate.receiver ≡ terminal
  pub state : TerminalState
  pub there : slice_get w.terminals terminal ≡ Some state
  pub counts : fate.counts ≡ true
  pub replies_are : fate.replies ≡ message ∷ []

single : (fate : HostFate) (message : Message) → fate.counts ≡ true → counted_replies fate ≡ message ∷ [] → fate.replies ≡ message ∷ []
single fate message counts is = sym (ap (λ b. if b then fate.replies else []) counts) ∙ is

not_counted : (fate : HostFate) (message : Message) → fate.counts ≡ false → counted_replies fate ≡ message ∷ [] → ⊥
not_counted fate message counts is = none_sent message [] (sym (ap (λ b. if b then fate.replies else []) counts) ∙ is)

arrival : (reads : List ℕ → Received) (w : Scene) (moment : ℕ) (created : DateParts) (prefix : Option Prefix) (order : HostOrder) (fate : HostFate) (message : Message)
    → fate ≡ host_fate prefix w.host (host_turn_of reads w moment created order) → counted_replies fate ≡ message ∷ [] → Arrival w order fate message
arrival reads w moment created prefix order fate message is sends =
    let turn = host_turn_of reads w moment created order in
    let arrives : Arrives fate w.host turn = subst (λ (f : HostFate). Arrives f w.host turn) (sym is) (fate_arrives prefix w.host turn) in
    ⊎_elim (λ none. absurd (not_counted fate message none.0 sends))
    (λ (whole : fate ≡ host_whole w.host turn.work turn.outcome).
    let sent = turn_sends reads w.host w moment created order message [] (subst (λ (f : HostFate). counted_replies f ≡ message ∷ []) whole sends) in
    let (terminal, which, up, to, (state, there), counts) = sent in
    let counts_so : fate.counts ≡ true = ap (λ (f : HostFate). f.counts) whole ∙ counts in
    record {
      terminal = terminal;
      which = which;
      is_up = up;
      receiver_is = ap (λ (f : HostFate). f.receiver) whole ∙ to;
      state = state;
      there = there;
      counts = counts_so;
      replies_are = single fate message counts_so sends;
    })
    arrives

-- there are as many texts as messages
texts_length : (texts : List (List ℕ)) (messages : List Message) → AreTexts texts messages → length texts ≡ length messages
texts_length [] [] are = refl
texts_length [] (message ∷ messages) are = absurd are
texts_length (text ∷ texts) [] are = absurd are
texts_length (text ∷ texts) (message ∷ messages) are = ap suc (texts_length texts messages are.1)

there_within : {A : Type 0} (list : List A) (place : ℕ) → place < length list → (x : A) × (slice_get list place ≡ Some x)
there_within list place lt = ⊎_elim (λ within. (within.0, within.2)) (λ past. absurd (not_both past.0)) (slice_get_cases list place).1
  where
    not_both : length list ≤ place → ⊥
    not_both le = omega (arith, le, lt)

-- what a line gives
sent_none : (messages : List Message) → IsSent None messages → messages ≡ []
sent_none [] is = refl
sent_none (message ∷ messages) is = absurd is

sent_some : (text : Vec ℕ Global) (messages : List Message) → IsSent (Some text) messages → (message : Message) × (messages ≡ message ∷ []) × IsTextOf message text.items
sent_some text [] is = absurd is
sent_some text (message ∷ []) is = (message, refl, is)
sent_some text (message ∷ other ∷ messages) is = absurd is

by_state : {P : Type 0} (b : Bool) → (b ≡ true → P) → (b ≡ false → P) → P
by_state true on off = on refl
by_state false on off = off refl

module _ {T H : Type 0} (term_entries : T → List TermEntry) (term_disk : T → MemoryDisk) (term_failed : T → Bool)
    (host_entries : H → List HostEntry) (host_disk : H → MemoryDisk) (host_failed : H → Bool) (power : Side → Power T) where
  abbrev OfTerminal : ℕ → Side → TerminalState → List ℕ → Doubt → Type 0
  OfTerminal lines side s places doubt = TerminalStands term_entries term_disk term_failed host_entries host_disk host_failed lines power side s places doubt

  abbrev OfHost : ℕ → Power H → HostState → Doubt → Type 0
  OfHost lines host s doubt = HostStandsAt term_entries term_disk term_failed host_entries host_disk host_failed lines host s doubt

  abbrev Stand : ℕ → Power H → List Side → Scene → Doubts → Type 0
  Stand lines host sides w doubts = EndsStand term_entries term_disk term_failed host_entries host_disk host_failed power lines host sides w doubts

  -- a terminal stands as before where a message arrives that doesn't count
  side_still : (lines : ℕ) (replies : List Message) (side : Side) (s : TerminalState) (places : List ℕ) (doubt : Doubt) → OfTerminal lines side s places doubt → OfTerminal lines side (answered s replies) places doubt
  side_still lines replies side s places doubt stands = record {
    stands = stands.stands;
    ready = stands.ready;
    sent_are = stands.sent_are;
    heard = stands.heard;
    counted = counted_still s.answers replies places stands.heard stands.counted;
    answers_are = stands.answers_are;
  }

  none_counts : (lines : ℕ) (host : Power H) (sides : List Side) (w : Scene) (doubts : Doubts) (receiver : ℕ) (replies : List Message) (counts : Bool)
      → (if counts then replies else []) ≡ [] → Stand lines host sides w doubts → Stand lines host sides (arrived w w.host receiver replies counts) doubts
  none_counts lines host sides w doubts receiver replies true none stands =
      subst (λ l. Stand lines host sides (arrived w w.host receiver l true) doubts) (sym none) (no_answer_arrives (OfTerminal lines) (OfHost lines) host sides w doubts receiver stands)
  none_counts lines host sides w doubts receiver replies false none stands =
      answers_are_dropped (OfTerminal lines) (OfHost lines) host sides w doubts receiver replies (side_still lines replies) stands

  -- what the host says of a line where it is on, and where it is off
  abbrev pub SaysOn : (old new : Power H) → (number : ℕ) → Option Prefix → HostOrder → (texts : List (List ℕ)) → (place : ℕ) → Done → Type 0
  SaysOn old new number prefix order texts place done =
      (reads : List ℕ → Received) (most : ℕ) (w : Scene) (doubt : Doubt) → IsReader reads → most + 4 < 2 ^ 64 → IsGiven w order texts place
      → HostStands host_entries host_disk host_failed most old w.host doubt → w.host.on ≡ true
      → Does host_entries host_disk host_failed reads (most + 4) new w number prefix order done

  abbrev pub SaysOff : (old new : Power H) → Done → Type 0
  SaysOff old new done =
      (most : ℕ) (s : HostState) (doubt : Doubt) → HostStands host_entries host_disk host_failed most old s doubt → s.on ≡ false
      → Passes host_entries host_disk host_failed most new s doubt done

  abbrev GoesTo : (sides after : List Side) → HostOrder → Option (Vec ℕ Global) → Type 0
  GoesTo sides after order reply = A.GoesTo term_entries term_disk term_failed power sides after order reply

  module _ (lines : ℕ) (host new : Power H) (sides after : List Side) (w : Scene) (doubts : Doubts) where
    abbrev Now : List Side → Scene → Doubts → Type 0
    Now all v d = Stand (lines + 1) new all v d

    abbrev ArrivedBy : HostFate → Type 0
    ArrivedBy fate = Stand (lines + 1) host after (arrived w w.host fate.receiver fate.replies fate.counts) doubts

    nothing_goes : (order : HostOrder) (fate : HostFate) → counted_replies fate ≡ [] → GoesTo sides after order None → Stand (lines + 1) host sides w doubts → ArrivedBy fate
    nothing_goes order fate none same stands =
        subst (λ l. Stand (lines + 1) host l (arrived w w.host fate.receiver fate.replies fate.counts) doubts) (sym same)
        (none_counts (lines + 1) host sides w doubts fate.receiver fate.replies fate.counts none stands)

    one_goes : (order : HostOrder) (fate : HostFate) (message : Message) (text : Vec ℕ Global) → Arrival w order fate message → IsTextOf message text.items → GoesTo sides after order (Some text)
        → Stand (lines + 1) host sides w doubts → ArrivedBy fate
    one_goes order fate message text came is goes stands =
        let within : came.terminal < length sides = subst (λ n. came.terminal < n) (sym stands.same) (slice_get_within w.terminals came.terminal came.state came.there) in
        let (old_side, new_side, at, after_is, hears) = goes came.terminal came.which came.is_up within in
        let stood = stands.each came.terminal old_side came.state at came.there in
        let heard = hears (most_calls (lines + 1)) came.state (counted_at w.counted came.terminal) (doubt_at doubts (Terminal came.terminal)) message is stood in
        let so = answers_arrive (OfTerminal (lines + 1)) (OfHost (lines + 1)) host sides w doubts came.terminal new_side came.state (message ∷ []) stands came.there heard in
        subst (λ l. Stand (lines + 1) host l (arrived w w.host fate.receiver fate.replies fate.counts) doubts) (sym after_is)
        (subst (λ r. Stand (lines + 1) host (slice_set sides came.terminal new_side) (arrived w w.host r fate.replies fate.counts) doubts) (sym came.receiver_is)
        (subst (λ l. Stand (lines + 1) host (slice_set sides came.terminal new_side) (arrived w w.host came.terminal l fate.counts) doubts) (sym came.replies_are)
        (subst (λ b. Stand (lines + 1) host (slice_set sides came.terminal new_side) (arrived w w.host came.terminal (message ∷ []) b) doubts) (sym came.counts) so)))

    goes_by : (reads : List ℕ → Received) (number : ℕ) (created : DateParts) (prefix : Option Prefix) (order : HostOrder) (reply : Option (Vec ℕ Global))
        → IsSent reply (counted_replies (host_line_fate reads w number created prefix order)) → GoesTo sides after order reply → Stand (lines + 1) host sides w doubts
        → ArrivedBy (host_line_fate reads w number created prefix order)
    goes_by reads number created prefix order None sent goes stands =
        let fate = host_line_fate reads w number created prefix order in
        nothing_goes order fate (sent_none (counted_replies fate) sent) goes stands
    goes_by reads number created prefix order (Some text) sent goes stands =
        let fate = host_line_fate reads w number created prefix order in
        let (message, is, text_is) = sent_some text (counted_replies fate) sent in
        one_goes order fate message text (arrival reads w (moment_of number) created prefix order fate message refl is) text_is goes stands

    four_fewer : most_calls lines + 4 ≤ most_calls (lines + 1)
    four_fewer = omega arith

    on_host : (reads : List ℕ → Received) (number : ℕ) (prefix : Option Prefix) (order : HostOrder) (texts : List (List ℕ)) (place : ℕ) (done : Done)
        → IsReader reads → lines < 2 ^ 48 → IsGiven w order texts place → Stand lines host sides w doubts → w.host.on ≡ true
        → SaysOn host new number prefix order texts place done → GoesTo sides after order done.reply
        → Acted reads (Now after) w doubts (host_line number prefix order) done.outcome
    on_host reads number prefix order texts place done reader few given stands on says goes =
        let n = most_calls lines in
        let small : n + 4 < 2 ^ 64 = omega (arith, few) in
        let (created, moment, meets) = says reads n w doubts.host reader small given stands.host_is on in
        let raised_all = raised term_entries term_disk term_failed host_entries host_disk host_failed power lines host sides w doubts stands in
        host_acted (OfTerminal (lines + 1)) (OfHost (lines + 1)) reads host new after w doubts number created prefix order done.outcome on moment
        (goes_by reads number created prefix order done.reply meets.reply_is goes raised_all)
        (host_more term_entries term_disk term_failed host_entries host_disk host_failed power (n + 4) (most_calls (lines + 1)) new _ _ four_fewer meets.stands) meets.outcome_is

    off_host : (reads : List ℕ → Received) (number : ℕ) (prefix : Option Prefix) (order : HostOrder) (created : DateParts) (done : Done)
        → Stand lines host sides w doubts → w.host.on ≡ false → IsMoment (moment_of number) created → SaysOff host new done → GoesTo sides after order done.reply
        → Acted reads (Now after) w doubts (host_line number prefix order) done.outcome
    off_host reads number prefix order created done stands off moment says goes =
        let n = most_calls lines in
        let passes = says n w.host doubts.host stands.host_is off in
        let raised_all = raised term_entries term_disk term_failed host_entries host_disk host_failed power lines host sides w doubts stands in
        let same : after ≡ sides = subst (λ (o : Option (Vec ℕ Global)). GoesTo sides after order o) passes.none_replied goes in
        let still : Stand (lines + 1) new sides w doubts = record {
          host_is = host_more term_entries term_disk term_failed host_entries host_disk host_failed power n (most_calls (lines + 1)) new w.host doubts.host (fewer_calls lines) passes.stands;
          same = raised_all.same;
          same_counted = raised_all.same_counted;
          same_doubts = raised_all.same_doubts;
          each = raised_all.each;
        } in
        subst (λ o. Acted reads (Now after) w doubts (host_line number prefix order) o) (sym passes.outcome_is)
        (passed_over reads (Now after) w doubts (host_line number prefix order) created off moment (subst (λ l. Stand (lines + 1) new l w doubts) (sym same) still))

    -- a line at the host
    pub host_acts : (reads : List ℕ → Received) (number : ℕ) (prefix : Option Prefix) (order : HostOrder) (texts : List (List ℕ)) (place : ℕ) (created : DateParts) (done : Done)
        → IsReader reads → lines < 2 ^ 48 → IsGiven w order texts place → Stand lines host sides w doubts → IsMoment (moment_of number) created
        → SaysOn host new number prefix order texts place done → SaysOff host new done → GoesTo sides after order done.reply
        → Acted reads (Now after) w doubts (host_line number prefix order) done.outcome
    host_acts reads number prefix order texts place created done reader few given stands moment on off goes =
        by_state w.host.on (λ is_on. on_host reads number prefix order texts place done reader few given stands is_on on goes)
        (λ is_off. off_host reads number prefix order created done stands is_off moment off goes)

  -- what the host says of an opening
  abbrev pub SaysReopened : (old new : Power H) → Option Prefix → Outcome → Type 0
  SaysReopened old new prefix outcome =
      (most : ℕ) (s : HostState) (doubt : Doubt) → 2 ≤ most → HostStands host_entries host_disk host_failed most old s doubt
      → Reopens host_entries host_disk host_failed most new s doubt prefix outcome

  module _ (lines : ℕ) (host new : Power H) (sides : List Side) (w : Scene) (doubts : Doubts) where
    two : 2 ≤ most_calls lines
    two = omega arith

    -- a line that opens the host again
    pub host_reopened_by : (reads : List ℕ → Received) (number : ℕ) (prefix : Option Prefix) (created : DateParts) (outcome : Outcome)
        → Stand lines host sides w doubts → IsMoment (moment_of number) created → SaysReopened host new prefix outcome
        → Acted reads (Stand (lines + 1) new sides) w doubts (host_opening_line number prefix) outcome
    host_reopened_by reads number prefix created outcome stands moment says =
        let n = most_calls lines in
        let (kept, keeps, stood, said) = says n w.host doubts.host two stands.host_is in
        let raised_all = raised term_entries term_disk term_failed host_entries host_disk host_failed power lines host sides w doubts stands in
        host_was_reopened (OfTerminal (lines + 1)) (OfHost (lines + 1)) reads host new sides w doubts number kept created prefix outcome raised_all moment keeps
        (host_more term_entries term_disk term_failed host_entries host_disk host_failed power n (most_calls (lines + 1)) new _ _ (fewer_calls lines) stood) said

    -- at the end of a schedule
    pub host_closed_by : (outcome : Outcome) → Stand lines host sides w doubts → w.host.on ≡ false → SaysReopened host new None outcome → Reopened (Stand lines new sides) w doubts Host
    host_closed_by outcome stands off says =
        let (kept, keeps, stood, said) = says (most_calls lines) w.host doubts.host two stands.host_is in
        let closed : OfHost lines new (host_reopened true kept w.host) doubts.host =
        record { stands = stands_any (Has host_reading) host_entries host_disk new (w.host.settled ++ take kept w.host.tried) true (no_doubt 0) doubts.host stood.stands; ready = stood.ready } in
        host_closed (OfTerminal lines) (OfHost lines) host new sides w doubts kept stands off keeps closed

    pub host_stays_so : Stand lines host sides w doubts → w.host.on ≡ true → Reopened (Stand lines host sides) w doubts Host
    host_stays_so stands on = host_stays_on (OfTerminal lines) (OfHost lines) host sides w doubts stands on

  -- by what the host answers: whatever scene the network stood to
  module _ (lines : ℕ) (host new : Power H) (sides : List Side) where
    pub act_is : (after : List Side) (number : ℕ) (prefix : Option Prefix) (order : HostOrder) (texts : List (List ℕ)) (place : ℕ) (created : DateParts) (done : Done)
        → lines < 2 ^ 48 → IsMoment (moment_of number) created
        → ((w : Scene) (doubts : Doubts) → Stand lines host sides w doubts → IsGiven w order texts place)
        → SaysOn host new number prefix order texts place done → SaysOff host new done → GoesTo sides after order done.reply
        → ActsSo (Stand lines host sides) (Stand (lines + 1) new after) (host_line number prefix order) done.outcome
    act_is after number prefix order texts place created done few moment given on off goes = λ reads sched w doubts reader range reached noise stands.
        host_acts lines host new sides after w doubts reads number prefix order texts place created done reader few (given w doubts stands) stands moment on off goes

    pub open_done : (outcome : Outcome) (number : ℕ) (prefix : Option Prefix) (created : DateParts) → IsMoment (moment_of number) created → SaysReopened host new prefix outcome
        → ActsSo (Stand lines host sides) (Stand (lines + 1) new sides) (host_opening_line number prefix) outcome
    open_done outcome number prefix created moment says = λ reads sched w doubts reader range reached noise stands.
        host_reopened_by lines host new sides w doubts reads number prefix created outcome stands moment says

    pub close_is : (left : MemoryDisk) (outcome : Outcome) → host ≡ Off left → SaysReopened host new None outcome → ReopensSo (Stand lines host sides) (Stand lines new sides) Host
    close_is left outcome off says = λ sched w doubts range reached stands.
        let is_off : w.host.on ≡ false = sym (subst (λ (p : Power H). S.Stands (Has host_reading) host_entries host_disk p w.host.settled w.host.tried w.host.on doubts.host) off stands.host_is.stands).on_is in
        host_closed_by lines host new sides w doubts outcome stands is_off says

    pub stays_is : (end : H) → host ≡ On end → ReopensSo (Stand lines host sides) (Stand lines host sides) Host
    stays_is end on = λ sched w doubts range reached stands.
        let is_on : w.host.on ≡ true = sym (subst (λ (p : Power H). S.Stands (Has host_reading) host_entries host_disk p w.host.settled w.host.tried w.host.on doubts.host) on stands.host_is.stands).on_is in
        host_stays_so lines host new sides w doubts stands is_on

  -- what is given with a line: the texts of the terminal that the line names
  module _ (lines : ℕ) (host : Power H) (sides : List Side) where
    pub given_side : (terminal which : ℕ) (side : Side) (w : Scene) (doubts : Doubts) → slice_get sides terminal ≡ Some side → Stand lines host sides w doubts
        → IsGiven w (W.Up terminal which) (texts_in side.sent.items) (length side.answers.items + 1)
    given_side terminal which side w doubts at stands =
        let (s, there) = there_within w.terminals terminal (subst (λ n. terminal < n) stands.same (slice_get_within sides terminal side at)) in
        let stood = stands.each terminal side s at there in
        let texts : AreTexts (texts_in side.sent.items) (sent_by_any (slice_get w.terminals terminal)) = subst (λ (o : Option TerminalState). AreTexts (texts_in side.sent.items) (sent_by_any o)) (sym there) stood.sent_are in
        let many : length (counted_at w.counted terminal) ≡ length side.answers.items =
        counted_length s.answers (counted_at w.counted terminal) stood.heard stood.counted ∙ sym (texts_length (texts_in side.answers.items) stood.heard stood.answers_are) ∙ length-map side.answers.items (λ (v : Vec ℕ Global). v.items) in
        (texts, ap (λ n. n + 1) (sym many))

    pub given_nobody : (terminal which : ℕ) (w : Scene) (doubts : Doubts) → length sides ≤ terminal → Stand lines host sides w doubts → IsGiven w (W.Up terminal which) [] 1
    given_nobody terminal which w doubts past stands =
        let none = slice_get_past w.terminals terminal (subst (λ n. n ≤ terminal) stands.same past) in
        let nothing : slice_get w.counted terminal ≡ None = slice_get_past w.counted terminal (subst (λ n. n ≤ terminal) (stands.same ∙ sym stands.same_counted) past) in
        (subst (λ (o : Option TerminalState). AreTexts [] (sent_by_any o)) (sym none) tt, sym (ap (λ (o : Option (List ℕ)). length (places_or_none o) + 1) nothing))

    pub given_by : (order : HostOrder) (texts : List (Vec ℕ Global)) (place : ℕ) → A.Gives sides order texts place
        → (w : Scene) (doubts : Doubts) → Stand lines host sides w doubts → IsGiven w order (texts_in texts) place
    given_by (W.Publish rows) texts place gives w doubts stands = tt
    given_by (W.Listen bytes) texts place gives w doubts stands = tt
    given_by (W.Up terminal which) texts place gives w doubts stands =
        let given = gives terminal which refl in
        by_place (slice_get_cases sides terminal).1 given
      where
        by_place : ((side : Side) × (terminal < length sides) × (slice_get sides terminal ≡ Some side) × (get_or sides terminal side ≡ side)) ⊎ ((length sides ≤ terminal) × (slice_get sides terminal ≡ None))
            → A.GivesFor sides terminal texts place → IsGiven w (W.Up terminal which) (texts_in texts) place
        by_place (inl (side, lt, at, is)) given =
            let (texts_are, place_is) = given.there side at in
            subst (λ l. IsGiven w (W.Up terminal which) (texts_in l) place) (sym texts_are)
            (subst (λ n. IsGiven w (W.Up terminal which) (texts_in side.sent.items) n) (sym place_is) (given_side terminal which side w doubts at stands))
        by_place (inr (past, at)) given =
            let (texts_are, place_is) = given.nobody past in
            subst (λ l. IsGiven w (W.Up terminal which) (texts_in l) place) (sym texts_are)
            (subst (λ n. IsGiven w (W.Up terminal which) [] n) (sym place_is) (given_nobody terminal which w doubts past stands))

  -- a reply arrives at the terminal of its line
  pub one_arrived : (sides : List Side) (order : HostOrder) (reply : Option (Vec ℕ Global)) (terminal which : ℕ) (text : Vec ℕ Global) (old new : Side)
      → order ≡ W.Up terminal which → reply ≡ Some text → slice_get sides terminal ≡ Some old → A.Hears term_entries term_disk term_failed power old new text.items
      → GoesTo sides (slice_set sides terminal new) order reply
  one_arrived sides order reply terminal which text old new up some at hears =
      subst (λ r. GoesTo sides (slice_set sides terminal new) order r) (sym some) (λ other w is within.
      let same : terminal ≡ other = same_terminal terminal which other w (sym up ∙ is) in
      (old, new, subst (λ n. slice_get sides n ≡ Some old) same at, ap (λ n. slice_set sides n new) same, hears))
    where
      same_terminal : (a b c d : ℕ) → W.Up a b ≡ W.Up c d → a ≡ c
      same_terminal a b c d e = cc
