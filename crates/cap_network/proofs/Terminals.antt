-- A line at one terminal of the network, and its opening.
use Rattle.std.specs.Prelude.{◌≡◌, ℕ, zero, suc, ◌+◌, ◌^◌, ◌≤◌, ◌<◌, Bool, true, false, List, [], ◌∷◌, ◌++◌, length, take, Option, Some, None, slice_get, slice_set}
use Rattle.std.proofs.Common.{refl, sym, ◌∙◌, ap, subst, inl, ⊎_elim, arith}
use Rattle.std.proofs.lemmas.Option.{slice_get_within, slice_get_past, slice_get_cases}
use Rattle.std.proofs.lemmas.Bool.{cond-false}
use Rattle.cap_leaf.specs.Date.{DateParts}
use Rattle.cap_msgs.specs.Moment.{IsMoment}
use Rattle.cap_msgs.specs.Received.{Received}
use Rattle.cap_disk.specs.declared.memory.MemoryDisk.{MemoryDisk}
use Rattle.cap_entries.specs.declared.terminal.TermEntry.{TermEntry}
use Rattle.cap_entries.specs.declared.host.HostEntry.{HostEntry}
use Rattle.cap_entries.specs.TermRecord.{term_reading}
use Rattle.cap_journal.specs.File.{Has}
use Rattle.cap_schedule.specs.declared.outcome.Outcome.{Outcome}
use Rattle.cap_schedule.specs.declared.outcome.Outcome.TheVariants.{IsOff, Restarted}
use Rattle.cap_schedule.specs.declared.schedule.End.TheVariants.{Terminal}
use Rattle.cap_schedule.specs.declared.schedule.Order.{Order}
use Rattle.cap_schedule.specs.declared.schedule.Order.TheVariants as T
use Rattle.cap_schedule.specs.declared.schedule.Prefix.{Prefix}
use Rattle.cap_schedule.specs.declared.schedule.Prefix.TheVariants.{Cut, Fail, CutAfter}
use Rattle.cap_schedule.specs.declared.schedule.Schedule.{Schedule}
use Rattle.cap_schedule.specs.Reader.{IsReader}
use Rattle.cap_schedule.specs.Nobodys.{IsNoiseOfOrder}
use Rattle.cap_world.specs.World.{TerminalState, HostState}
use Rattle.cap_plays.specs.Turns.{Scene, world_of, counted_at}
use Rattle.cap_plays.specs.Plays.{Doubt, no_doubt, reopened, Doubts, doubt_at, with_doubt, moment_of, terminal_is_on, is_on, Fate, fate, fate_of, fate_whole, opens, opening_plan, plan_of_opening, terminal_plan, terminal_off, fails_first}
use Rattle.cap_plays.specs.Session.{IsFate, Acted, Reopened, ActsSo, ReopensSo}
use Rattle.cap_plays.specs.Laws.{InRange, IsReached}
use Rattle.cap_plays.specs.SetUps.{reached_set_up, noise_is_not_ours}
use Rattle.cap_plays.specs.Ends.{terminal_line, terminal_acted, terminal_replaced}
use Rattle.cap_plays.specs.Openings.{opening_line, terminal_reopened, terminal_closed, terminal_stays}
use Rattle.cap_power.specs.Standing.{Stands}
use Rattle.cap_power.specs.declared.power.Power.{Power}
use Rattle.cap_power.specs.declared.power.Power.TheVariants.{On, Off}
use Rattle.cap_terminal_lines.specs.Acts.{IsNoiseTo}
use Rattle.cap_terminal_side.specs.declared.side.Side.{Side}
use Rattle.cap_terminal_side.specs.Sides.{SideStands, Does, Passes, Reopens}
use Rattle.cap_replay.specs.Passed.{passed_over}
use Rattle.cap_network.specs.Nowhere.{nowhere}
use Rattle.cap_network.specs.Ends.{most_calls, TerminalStands, HostStandsAt, EndsStand}
use Rattle.cap_network.proofs.Surely.{stands_any}
use Rattle.cap_network.proofs.Raising.{eight_more, fewer_calls, side_more, raised}

-- noise of the schedule's is noise to a terminal
noise_to : (reads : List ℕ → Received) (sched : Schedule) (w : Scene) (place : ℕ) (s : TerminalState) (order : Order)
    → InRange sched → IsReached sched w → slice_get w.terminals place ≡ Some s → IsNoiseOfOrder reads sched order → IsNoiseTo reads s.settled order
noise_to reads sched w place s (T.Hear bytes) range reached there noise =
    noise_is_not_ours sched (world_of w) place s (reads bytes) range (reached_set_up sched (world_of w) reached.0 reached.1) there noise
noise_to reads sched w place s order range reached there noise = tt

-- elements within a list
there_within : {A : Type 0} (list : List A) (place : ℕ) → place < length list → (x : A) × (slice_get list place ≡ Some x)
there_within list place lt = ⊎_elim (λ within. (within.0, within.2)) (λ past. absurd (not_both past.0)) (slice_get_cases list place).1
  where
    not_both : length list ≤ place → ⊥
    not_both le = omega (arith, le, lt)

-- no terminal is there
nowhere_on : (w : Scene) (place : ℕ) → slice_get w.terminals place ≡ None → is_on w (Terminal place) ≡ false
nowhere_on w place none = ap terminal_is_on none

there_on : (w : Scene) (place : ℕ) (s : TerminalState) → slice_get w.terminals place ≡ Some s → is_on w (Terminal place) ≡ s.on
there_on w place s there = ap terminal_is_on there

abbrev nothing_made : Scene → Outcome → Fate
nothing_made w outcome = record { happenings = []; scene = w; outcome = outcome; doubt = no_doubt 0 }

nothing_done : (w : Scene) (old : Doubt) (kept place : ℕ) → slice_get w.terminals place ≡ None → fate_whole w (opening_plan w old kept (Terminal place)).steps Restarted ≡ nothing_made w Restarted
nothing_done w old kept place none = ap (λ (found : Option TerminalState). fate_whole w (terminal_plan found (λ s. plan_of_opening (opens w old false kept place s))).steps Restarted) none

nowhere_fate : (reads : List ℕ → Received) (prefix : Option Prefix) (w : Scene) (old : Doubt) (kept number place : ℕ) (created : DateParts) → slice_get w.terminals place ≡ None
    → fate reads w old kept created (opening_line number place prefix) ≡ nothing_made w (nowhere prefix)
nowhere_fate reads prefix w old kept number place created none =
    ap (λ (found : Option TerminalState). fate_of prefix w (Terminal place) (terminal_plan found (λ s. plan_of_opening (opens w old (fails_first prefix) kept place s)))) none ∙ nobody_by prefix
  where
    nobody_by : (p : Option Prefix) → fate_of p w (Terminal place) (terminal_plan None (λ s. plan_of_opening (opens w old (fails_first prefix) kept place s))) ≡ nothing_made w (nowhere p)
    nobody_by None = refl
    nobody_by (Some (Cut call fill)) = refl
    nobody_by (Some (Fail call fill)) = refl
    nobody_by (Some CutAfter) = ap (λ (found : Option TerminalState). terminal_off w place found) none

-- nothing is set beyond a list
set_beyond : {A : Type 0} (list : List A) (place : ℕ) (x : A) → length list ≤ place → slice_set list place x ≡ list
set_beyond [] place x past = refl
set_beyond (a ∷ list) zero x past = absurd (no_room past)
  where
    no_room : suc (length list) ≤ 0 → ⊥
    no_room le = omega (arith, le)
set_beyond (a ∷ list) (suc place) x past = ap (λ l. a ∷ l) (set_beyond list place x (omega (arith, past)))

-- the state to which a power stands
off_on : {T : Type 0} (has : List ℕ → List TermEntry → Type 0) (entries : T → List TermEntry) (disk : T → MemoryDisk) (power : Power T) (s : TerminalState) (doubt : Doubt) (left : MemoryDisk)
    → power ≡ Off left → Stands has entries disk power s.settled s.tried s.on doubt → false ≡ s.on
off_on has entries disk power s doubt left is stands =
    (subst (λ (p : Power _). Stands has entries disk p s.settled s.tried s.on doubt) is stands).on_is

on_on : {T : Type 0} (has : List ℕ → List TermEntry → Type 0) (entries : T → List TermEntry) (disk : T → MemoryDisk) (power : Power T) (s : TerminalState) (doubt : Doubt) (end : T)
    → power ≡ On end → Stands has entries disk power s.settled s.tried s.on doubt → true ≡ s.on
on_on has entries disk power s doubt end is stands =
    (subst (λ (p : Power _). Stands has entries disk p s.settled s.tried s.on doubt) is stands).on_is

by_power : {P : Type 0} (b : Bool) → (b ≡ true → P) → (b ≡ false → P) → P
by_power true on off = on refl
by_power false on off = off refl

module _ {T H : Type 0} (term_entries : T → List TermEntry) (term_disk : T → MemoryDisk) (term_failed : T → Bool)
    (host_entries : H → List HostEntry) (host_disk : H → MemoryDisk) (host_failed : H → Bool) (power : Side → Power T) where
  abbrev OfTerminal : ℕ → Side → TerminalState → List ℕ → Doubt → Type 0
  OfTerminal lines side s places doubt = TerminalStands term_entries term_disk term_failed host_entries host_disk host_failed lines power side s places doubt

  abbrev OfHost : ℕ → Power H → HostState → Doubt → Type 0
  OfHost lines host s doubt = HostStandsAt term_entries term_disk term_failed host_entries host_disk host_failed lines host s doubt

  abbrev Stand : ℕ → Power H → List Side → Scene → Doubts → Type 0
  Stand lines host sides w doubts = EndsStand term_entries term_disk term_failed host_entries host_disk host_failed power lines host sides w doubts

  -- what a side says of a line where it is on, and where it is off
  abbrev SaysOn : (old new : Side) → (number : ℕ) → Option Prefix → Order → Outcome → Type 0
  SaysOn old new number prefix order outcome =
      (reads : List ℕ → Received) (most : ℕ) (s : TerminalState) (places : List ℕ) (doubt : Doubt) → IsReader reads → most + 8 < 2 ^ 64 → IsNoiseTo reads s.settled order
      → SideStands term_entries term_disk term_failed most (power old) old.sent old.answers s places doubt → s.on ≡ true
      → Does term_entries term_disk term_failed reads (most + 8) (power new) new.sent new.answers s places number prefix order outcome

  abbrev SaysOff : (old new : Side) → Outcome → Type 0
  SaysOff old new outcome =
      (most : ℕ) (s : TerminalState) (places : List ℕ) (doubt : Doubt) → SideStands term_entries term_disk term_failed most (power old) old.sent old.answers s places doubt → s.on ≡ false
      → Passes term_entries term_disk term_failed most (power new) new.sent new.answers s places doubt outcome

  more_calls : (n m : ℕ) (side : Side) (s : TerminalState) (places : List ℕ) (doubt : Doubt) → n + 8 ≡ m
      → SideStands term_entries term_disk term_failed (n + 8) (power side) side.sent side.answers s places doubt → SideStands term_entries term_disk term_failed m (power side) side.sent side.answers s places doubt
  more_calls n m side s places doubt same stands = subst (λ k. SideStands term_entries term_disk term_failed k (power side) side.sent side.answers s places doubt) same stands

  module _ (lines : ℕ) (host : Power H) (sides : List Side) (w : Scene) (doubts : Doubts) (place : ℕ) where
    abbrev Now : List Side → Scene → Doubts → Type 0
    Now after v d = Stand (lines + 1) host after v d

    -- no terminal has this place
    nobody_there : Stand lines host sides w doubts → length sides ≤ place → slice_get w.terminals place ≡ None
    nobody_there stands past = slice_get_past w.terminals place (subst (λ n. n ≤ place) stands.same past)

    pub somebody_there : (side : Side) → Stand lines host sides w doubts → slice_get sides place ≡ Some side → (s : TerminalState) × (slice_get w.terminals place ≡ Some s)
    somebody_there side stands at = there_within w.terminals place (subst (λ n. place < n) stands.same (slice_get_within sides place side at))

    -- nobody acts
    pub nobody_acts : (reads : List ℕ → Received) (number : ℕ) (prefix : Option Prefix) (order : Order) (created : DateParts)
        → Stand lines host sides w doubts → length sides ≤ place → IsMoment (moment_of number) created
        → Acted reads (Now sides) w doubts (terminal_line number place prefix order) IsOff
    nobody_acts reads number prefix order created stands past at =
        passed_over reads (Now sides) w doubts (terminal_line number place prefix order) created (nowhere_on w place (nobody_there stands past)) at
        (raised term_entries term_disk term_failed host_entries host_disk host_failed power lines host sides w doubts stands)

    on_side : (reads : List ℕ → Received) (sched : Schedule) (number : ℕ) (prefix : Option Prefix) (order : Order) (old new : Side) (s : TerminalState) (outcome : Outcome)
        → IsReader reads → InRange sched → IsReached sched w → IsNoiseOfOrder reads sched order → lines < 2 ^ 48 → Stand lines host sides w doubts → slice_get sides place ≡ Some old
        → slice_get w.terminals place ≡ Some s → s.on ≡ true → SaysOn old new number prefix order outcome
        → Acted reads (Now (slice_set sides place new)) w doubts (terminal_line number place prefix order) outcome
    on_side reads sched number prefix order old new s outcome reader range reached noise few stands at there on says =
        let n = most_calls lines in
        let small : n + 8 < 2 ^ 64 = omega (arith, few) in
        let stood = stands.each place old s at there in
        let (created, moment, meets) = says reads n s (counted_at w.counted place) (doubt_at doubts (Terminal place)) reader small (noise_to reads sched w place s order range reached there noise) stood on in
        let raised_all = raised term_entries term_disk term_failed host_entries host_disk host_failed power lines host sides w doubts stands in
        terminal_acted (OfTerminal (lines + 1)) (OfHost (lines + 1)) reads host sides w doubts number place created prefix order new s outcome raised_all there on moment
        (more_calls n (most_calls (lines + 1)) new _ _ _ (eight_more lines) meets.0) meets.1

    off_side : (reads : List ℕ → Received) (number : ℕ) (prefix : Option Prefix) (order : Order) (created : DateParts) (old new : Side) (s : TerminalState) (outcome : Outcome)
        → Stand lines host sides w doubts → slice_get sides place ≡ Some old → slice_get w.terminals place ≡ Some s → s.on ≡ false → IsMoment (moment_of number) created
        → SaysOff old new outcome → Acted reads (Now (slice_set sides place new)) w doubts (terminal_line number place prefix order) outcome
    off_side reads number prefix order created old new s outcome stands at there off moment says =
        let n = most_calls lines in
        let passes = says n s (counted_at w.counted place) (doubt_at doubts (Terminal place)) (stands.each place old s at there) off in
        let raised_all = raised term_entries term_disk term_failed host_entries host_disk host_failed power lines host sides w doubts stands in
        let still = terminal_replaced (OfTerminal (lines + 1)) (OfHost (lines + 1)) host sides w doubts place new s raised_all there
        (side_more term_entries term_disk term_failed host_entries host_disk host_failed power n (most_calls (lines + 1)) new s _ _ (fewer_calls lines) passes.0) in
        subst (λ o. Acted reads (Now (slice_set sides place new)) w doubts (terminal_line number place prefix order) o) (sym passes.1)
        (passed_over reads (Now (slice_set sides place new)) w doubts (terminal_line number place prefix order) created (there_on w place s there ∙ off) moment still)

    -- a line at a terminal
    pub side_acts : (reads : List ℕ → Received) (sched : Schedule) (number : ℕ) (prefix : Option Prefix) (order : Order) (created : DateParts) (old new : Side) (outcome : Outcome)
        → IsReader reads → InRange sched → IsReached sched w → IsNoiseOfOrder reads sched order → lines < 2 ^ 48 → Stand lines host sides w doubts → slice_get sides place ≡ Some old
        → IsMoment (moment_of number) created → SaysOn old new number prefix order outcome → SaysOff old new outcome
        → Acted reads (Now (slice_set sides place new)) w doubts (terminal_line number place prefix order) outcome
    side_acts reads sched number prefix order created old new outcome reader range reached noise few stands at moment on off =
        let (s, there) = somebody_there old stands at in
        by_power s.on
        (λ is_on. on_side reads sched number prefix order old new s outcome reader range reached noise few stands at there is_on on)
        (λ is_off. off_side reads number prefix order created old new s outcome stands at there is_off moment off)

    -- what a side says of an opening
    abbrev pub SaysReopened : (old new : Side) → Option Prefix → Outcome → Type 0
    SaysReopened old new prefix outcome =
        (most : ℕ) (s : TerminalState) (places : List ℕ) (doubt : Doubt) → 2 ≤ most → SideStands term_entries term_disk term_failed most (power old) old.sent old.answers s places doubt
        → Reopens term_entries term_disk term_failed most (power new) new.sent new.answers s places doubt prefix outcome

    two : 2 ≤ most_calls lines
    two = omega arith

    -- a line that opens a terminal again
    pub side_reopened : (reads : List ℕ → Received) (number : ℕ) (prefix : Option Prefix) (created : DateParts) (old new : Side) (outcome : Outcome)
        → Stand lines host sides w doubts → slice_get sides place ≡ Some old → IsMoment (moment_of number) created → SaysReopened old new prefix outcome
        → Acted reads (Now (slice_set sides place new)) w doubts (opening_line number place prefix) outcome
    side_reopened reads number prefix created old new outcome stands at moment says =
        let (s, there) = somebody_there old stands at in
        let n = most_calls lines in
        let (kept, keeps, meets) = says n s (counted_at w.counted place) (doubt_at doubts (Terminal place)) two (stands.each place old s at there) in
        let raised_all = raised term_entries term_disk term_failed host_entries host_disk host_failed power lines host sides w doubts stands in
        terminal_reopened (OfTerminal (lines + 1)) (OfHost (lines + 1)) reads host sides w doubts number place kept created prefix new s outcome raised_all there moment keeps
        (side_more term_entries term_disk term_failed host_entries host_disk host_failed power n (most_calls (lines + 1)) new _ _ _ (fewer_calls lines) meets.0) meets.1

    -- at the end of a schedule
    pub side_closed : (old new : Side) (outcome : Outcome) (s : TerminalState)
        → Stand lines host sides w doubts → slice_get sides place ≡ Some old → slice_get w.terminals place ≡ Some s → s.on ≡ false → SaysReopened old new None outcome
        → Reopened (Stand lines host (slice_set sides place new)) w doubts (Terminal place)
    side_closed old new outcome s stands at there off says =
        let n = most_calls lines in
        let (kept, keeps, meets) = says n s (counted_at w.counted place) (doubt_at doubts (Terminal place)) two (stands.each place old s at there) in
        let closed : OfTerminal lines new (reopened true kept s) (counted_at w.counted place) (doubt_at doubts (Terminal place)) = record {
          stands = stands_any (Has term_reading) term_entries term_disk (power new) (s.settled ++ take kept s.tried) true (no_doubt 0) (doubt_at doubts (Terminal place)) meets.0.stands;
          ready = meets.0.ready;
          sent_are = meets.0.sent_are;
          heard = meets.0.heard;
          counted = meets.0.counted;
          answers_are = meets.0.answers_are;
        } in
        terminal_closed (OfTerminal lines) (OfHost lines) host sides w doubts place kept new s stands there off keeps closed

    pub side_stays : (old : Side) (s : TerminalState)
        → Stand lines host sides w doubts → slice_get w.terminals place ≡ Some s → s.on ≡ true → Reopened (Stand lines host sides) w doubts (Terminal place)
    side_stays old s stands there on = terminal_stays (OfTerminal lines) (OfHost lines) host sides w doubts place s stands there on

  -- by the answer of a side: whatever scene the network stood to
  module _ (lines : ℕ) (host : Power H) (sides : List Side) (place : ℕ) (old new : Side) where
    pub act_done : (outcome : Outcome) (number : ℕ) (prefix : Option Prefix) (order : Order) (created : DateParts)
        → lines < 2 ^ 48 → slice_get sides place ≡ Some old → IsMoment (moment_of number) created → SaysOn old new number prefix order outcome → SaysOff old new outcome
        → ActsSo (Stand lines host sides) (Stand (lines + 1) host (slice_set sides place new)) (terminal_line number place prefix order) outcome
    act_done outcome number prefix order created few at moment on off = λ reads sched w doubts reader range reached noise stands.
        side_acts lines host sides w doubts place reads sched number prefix order created old new outcome reader range reached noise few stands at moment on off

    abbrev pub Reopening : Outcome → Option Prefix → Type 0
    Reopening outcome prefix =
        (most : ℕ) (s : TerminalState) (places : List ℕ) (doubt : Doubt) → 2 ≤ most → SideStands term_entries term_disk term_failed most (power old) old.sent old.answers s places doubt
        → Reopens term_entries term_disk term_failed most (power new) new.sent new.answers s places doubt prefix outcome

    pub open_done : (outcome : Outcome) (number : ℕ) (prefix : Option Prefix) (created : DateParts)
        → slice_get sides place ≡ Some old → IsMoment (moment_of number) created → Reopening outcome prefix
        → ActsSo (Stand lines host sides) (Stand (lines + 1) host (slice_set sides place new)) (opening_line number place prefix) outcome
    open_done outcome number prefix created at moment says = λ reads sched w doubts reader range reached noise stands.
        side_reopened lines host sides w doubts place reads number prefix created old new outcome stands at moment says

    -- an end that is off has its disk alone
    pub close_is : (left : MemoryDisk) (outcome : Outcome) → power old ≡ Off left → slice_get sides place ≡ Some old
        → ((most : ℕ) (s : TerminalState) (places : List ℕ) (doubt : Doubt) → 2 ≤ most → SideStands term_entries term_disk term_failed most (power old) old.sent old.answers s places doubt
        → Reopens term_entries term_disk term_failed most (power new) new.sent new.answers s places doubt None outcome)
        → ReopensSo (Stand lines host sides) (Stand lines host (slice_set sides place new)) (Terminal place)
    close_is left outcome off at says = λ sched w doubts range reached stands.
        let (s, there) = somebody_there lines host sides w doubts place old stands at in
        let stood = stands.each place old s at there in
        let is_off : s.on ≡ false = off_state s _ _ _ left off stood in
        side_closed lines host sides w doubts place old new outcome s stands at there is_off says
      where
        off_state : (s : TerminalState) (most : ℕ) (places : List ℕ) (doubt : Doubt) (left : MemoryDisk) → power old ≡ Off left
            → SideStands term_entries term_disk term_failed most (power old) old.sent old.answers s places doubt → s.on ≡ false
        off_state s most places doubt left off stood = sym (off_on (Has term_reading) term_entries term_disk (power old) s doubt left off stood.stands)

    pub stays_is : (end : T) → power old ≡ On end → slice_get sides place ≡ Some old → ReopensSo (Stand lines host sides) (Stand lines host sides) (Terminal place)
    stays_is end on at = λ sched w doubts range reached stands.
        let (s, there) = somebody_there lines host sides w doubts place old stands at in
        let stood = stands.each place old s at there in
        side_stays lines host sides w doubts place old s stands there (sym (on_on (Has term_reading) term_entries term_disk (power old) s _ end on stood.stands))

  -- nobody is there
  module _ (lines : ℕ) (host : Power H) (sides : List Side) (place : ℕ) where
    pub absent_acts : (number : ℕ) (prefix : Option Prefix) (order : Order) (created : DateParts) → length sides ≤ place → IsMoment (moment_of number) created
        → ActsSo (Stand lines host sides) (Stand (lines + 1) host sides) (terminal_line number place prefix order) IsOff
    absent_acts number prefix order created past moment = λ reads sched w doubts reader range reached noise stands.
        nobody_acts lines host sides w doubts place reads number prefix order created stands past moment

    pub absent_stays : length sides ≤ place → ReopensSo (Stand lines host sides) (Stand lines host sides) (Terminal place)
    absent_stays past = λ sched w doubts range reached stands.
        let none = nobody_there lines host sides w doubts place stands past in
        let off : is_on w (Terminal place) ≡ false = nowhere_on w place none in (
          (doubt_at doubts (Terminal place)).least,
          inl refl,
          subst (λ (f : Fate). Stand lines host sides f.scene doubts) (sym (cond-false (is_on w (Terminal place)) _ _ off ∙ nothing_done w (doubt_at doubts (Terminal place)) (doubt_at doubts (Terminal place)).least place none)) stands,
        )

    pub absent_opens : (number : ℕ) (prefix : Option Prefix) (created : DateParts) → length sides ≤ place → IsMoment (moment_of number) created
        → ActsSo (Stand lines host sides) (Stand (lines + 1) host sides) (opening_line number place prefix) (nowhere prefix)
    absent_opens number prefix created past moment = λ reads sched w doubts reader range reached noise stands.
        let none = nobody_there lines host sides w doubts place stands past in
        let old = doubt_at doubts (Terminal place) in
        let line = opening_line number place prefix in
        let is = nowhere_fate reads prefix w old old.least number place created none in
        let raised_all = raised term_entries term_disk term_failed host_entries host_disk host_failed power lines host sides w doubts stands in
        let beyond : length doubts.terminals ≤ place = subst (λ n. n ≤ place) (stands.same ∙ sym stands.same_doubts) past in
        let same : with_doubt doubts (Terminal place) (no_doubt 0) ≡ doubts =
        ap (λ (l : List Doubt). let d : Doubts = record { host = doubts.host; terminals = l } in d) (set_beyond doubts.terminals place (no_doubt 0) beyond) in
        let still : Stand (lines + 1) host sides w (with_doubt doubts (Terminal place) (no_doubt 0)) = subst (λ (d : Doubts). Stand (lines + 1) host sides w d) (sym same) raised_all in
        (created, old.least, moment, inl refl, subst (λ (f : Fate). IsFate (Stand (lines + 1) host sides) doubts (Terminal place) (nowhere prefix) f) (sym is) (still, refl))
