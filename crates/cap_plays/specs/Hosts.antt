-- What the host does in a line is what the line makes of the scene.
use Rattle.std.proofs.Common.{◌≡◌, ℕ, zero, suc, Bool, true, false, List, [], ◌∷◌, ◌++◌, length, Option, Some, None, refl, sym, ◌∙◌, ap, subst, inl, append-nil, arith, ◌<◌}
use Rattle.std.specs.Prelude.{slice_get, slice_set, nat_le, ◌==◌, if◌then◌else◌}
use Rattle.std.proofs.lemmas.Bool.{cond-true, cond-false, cond_both}
use Rattle.std.proofs.lemmas.Option.{same_Some, none-some, slice_get_within}
use Rattle.cap_leaf.specs.Date.{DateParts}
use Rattle.cap_msgs.specs.Received.{Received}
use Rattle.cap_msgs.specs.Moment.{IsMoment}
use Rattle.cap_msgs.specs.declared.message.Message.{Message}
use Rattle.cap_entries.specs.declared.terminal.TermEntry.{TermEntry}
use Rattle.cap_entries.specs.declared.host.HostEntry.{HostEntry}
use Rattle.cap_ledger.specs.Adding.{calls_for}
use Rattle.cap_schedule.specs.declared.outcome.Outcome.{Outcome}
use Rattle.cap_schedule.specs.declared.outcome.Outcome.TheVariants.{DiskFailed}
use Rattle.cap_schedule.specs.declared.schedule.End.TheVariants.{Host, Terminal}
use Rattle.cap_schedule.specs.declared.schedule.Prefix.{Prefix}
use Rattle.cap_schedule.specs.declared.schedule.Prefix.TheVariants.{Cut, Fail, CutAfter}
use Rattle.cap_schedule.specs.declared.schedule.Action.TheVariants.{AtHost, Reopen}
use Rattle.cap_schedule.specs.declared.schedule.Line.{Line}
use Rattle.cap_schedule.specs.declared.schedule.HostOrder.{HostOrder}
use Rattle.cap_world.specs.World.{TerminalState, HostState, delivered}
use Rattle.cap_plays.specs.Turns.{Scene, counted_at, HostWork, HostTurn, host_turn_of}
use Rattle.cap_plays.specs.Plays.{Doubt, no_doubt, MayKeep, with_host, arrived, noted, places_from, host_made, host_opens, host_reopened, host_left_off, plan_of_host_turn, moment_of, Fate, fate, fate_of, fate_whole, fate_in, fate_cut_after, fate_broken, Doubts, doubt_at, with_doubt}
use Rattle.cap_plays.specs.Corresponds.{EndCorresponds, TerminalCorresponds, HostFate, host_whole, host_in, host_cut_after, host_fate, host_stays, host_opening, answered, places_after, NetworkCorresponds, DisksHave}
use Rattle.cap_plays.specs.Session.{Acted, Reopened}
use Rattle.cap_plays.specs.Laws.{AllOn}
use Rattle.cap_plays.specs.Answers.{counted_still, counted_more}
use Rattle.cap_plays.specs.Ends.{place_changes, doubts_as_they_are, counted_as_they_are}

same_answers : (s : TerminalState) → answered s [] ≡ s
same_answers s = ap (λ (l : List Message). let t : TerminalState = record { settled = s.settled; tried = s.tried; on = s.on; sent = s.sent; answers = l } in t) (append-nil s.answers)

delivered_none : (terminals : List TerminalState) (place : ℕ) → delivered terminals place [] ≡ terminals
delivered_none [] place = refl
delivered_none (s ∷ terminals) zero = ap (λ (t : TerminalState). t ∷ terminals) (same_answers s)
delivered_none (s ∷ terminals) (suc place) = ap (λ l. s ∷ l) (delivered_none terminals place)

delivered_set : (terminals : List TerminalState) (place : ℕ) (s : TerminalState) (messages : List Message) → slice_get terminals place ≡ Some s → delivered terminals place messages ≡ slice_set terminals place (answered s messages)
delivered_set [] place s messages there = absurd (none-some s there)
delivered_set (t ∷ terminals) zero s messages there = ap (λ (u : TerminalState). answered u messages ∷ terminals) (same_Some _ _ there)
delivered_set (t ∷ terminals) (suc place) s messages there = ap (λ l. t ∷ l) (delivered_set terminals place s messages there)

delivered_nowhere : (terminals : List TerminalState) (place : ℕ) (messages : List Message) → slice_get terminals place ≡ None → delivered terminals place messages ≡ terminals
delivered_nowhere [] place messages nobody = refl
delivered_nowhere (t ∷ terminals) zero messages nobody = absurd (none-some t (sym nobody))
delivered_nowhere (t ∷ terminals) (suc place) messages nobody = ap (λ l. t ∷ l) (delivered_nowhere terminals place messages nobody)

noted_set : (counted : List (List ℕ)) (terminals : List TerminalState) (place : ℕ) (s : TerminalState) (messages : List Message) → slice_get terminals place ≡ Some s
    → noted counted terminals place messages ≡ slice_set counted place (counted_at counted place ++ places_from (length s.answers) messages)
noted_set [] terminals place s messages there = refl
noted_set (places ∷ counted) [] place s messages there = absurd (none-some s there)
noted_set (places ∷ counted) (t ∷ terminals) zero s messages there = ap (λ (u : TerminalState). (places ++ places_from (length u.answers) messages) ∷ counted) (same_Some _ _ there)
noted_set (places ∷ counted) (t ∷ terminals) (suc place) s messages there = ap (λ l. places ∷ l) (noted_set counted terminals place s messages there)

noted_none : (counted : List (List ℕ)) (terminals : List TerminalState) (place : ℕ) → noted counted terminals place [] ≡ counted
noted_none [] terminals place = refl
noted_none (places ∷ counted) [] place = refl
noted_none (places ∷ counted) (t ∷ terminals) zero = ap (λ l. l ∷ counted) (append-nil places)
noted_none (places ∷ counted) (t ∷ terminals) (suc place) = ap (λ l. places ∷ l) (noted_none counted terminals place)

no_less : (n : ℕ) → n < 0 → ⊥
no_less n lt = omega (arith, lt)

-- an element within a list
within_is_there : {A : Type 0} (list : List A) (place : ℕ) → place < length list → slice_get list place ≡ None → ⊥
within_is_there [] place lt none = no_less place lt
within_is_there (a ∷ list) zero lt none = none-some a (sym none)
within_is_there (a ∷ list) (suc place) lt none = within_is_there list place (omega (arith, lt)) none

-- two lists of one length have elements at the same places
never_fewer : {A B : Type 0} (list : List A) (other : List B) (place : ℕ) (x : B) → length list ≡ length other → slice_get other place ≡ Some x → slice_get list place ≡ None → ⊥
never_fewer list other place x same there none = within_is_there list place (subst (λ n. place < n) (sym same) (slice_get_within other place x there)) none

same_there : {A : Type 0} (list : List A) (place : ℕ) (x : A) → slice_get list place ≡ Some x → slice_set list place x ≡ list
same_there [] place x there = refl
same_there (a ∷ list) zero x there = ap (λ b. b ∷ list) (sym (same_Some _ _ there))
same_there (a ∷ list) (suc place) x there = ap (λ l. a ∷ l) (same_there list place x there)

-- nothing arrives
pub quiet : (w : Scene) (host : HostState) → with_host w host ≡ arrived w host 0 [] false
quiet w host = ap (λ (l : List TerminalState). let v : Scene = record { host = host; terminals = l; counted = w.counted } in v) (sym (delivered_none w.terminals 0))

-- what a line makes of the scene is what it makes of the host, and what arrives
pub record SameHostFate (w : Scene) (fate : Fate) (end : HostFate) : Type 0 where
  pub scene : fate.scene ≡ arrived w end.state end.receiver end.replies end.counts
  pub doubt : fate.doubt ≡ end.doubt
  pub outcome : fate.outcome ≡ end.outcome

either : (w : Scene) (b : Bool) (x y : Fate) (p q : HostFate) → SameHostFate w x p → SameHostFate w y q → SameHostFate w (if b then x else y) (if b then p else q)
either w true x y p q one other = one
either w false x y p q one other = other

same_whole : (w : Scene) (work : Option HostWork) (outcome : Outcome) → SameHostFate w (fate_whole w (host_made w work) outcome) (host_whole w.host work outcome)
same_whole w None outcome = record { scene = quiet w w.host; doubt = refl; outcome = refl }
same_whole w (Some work) outcome = record { scene = refl; doubt = refl; outcome = refl }

same_in : (w : Scene) (work : Option HostWork) (outcome ended : Outcome) (c : ℕ) → SameHostFate w (fate_in w (host_made w work) outcome ended c) (host_in w.host work outcome ended c)
same_in w None outcome ended c = record { scene = quiet w w.host; doubt = refl; outcome = refl }
same_in w (Some work) outcome ended c =
    either w (nat_le c (calls_for work.added)) _ _ _ _ (record { scene = quiet w _; doubt = refl; outcome = refl }) (record { scene = refl; doubt = refl; outcome = refl })

same_after : (w : Scene) (work : Option HostWork) → SameHostFate w (fate_cut_after w Host (host_made w work)) (host_cut_after w.host work)
same_after w None = record { scene = quiet w _; doubt = refl; outcome = refl }
same_after w (Some work) = record { scene = quiet w _; doubt = refl; outcome = refl }

same_of : (prefix : Option Prefix) (w : Scene) (turn : HostTurn) → SameHostFate w (fate_of prefix w Host (plan_of_host_turn w turn)) (host_fate prefix w.host turn)
same_of None w turn = same_whole w turn.work turn.outcome
same_of (Some (Cut call fill)) w turn = same_in w turn.work turn.outcome _ call
same_of (Some (Fail call fill)) w turn = same_in w turn.work turn.outcome _ call
same_of (Some CutAfter) w turn = same_after w turn.work

-- the line of the host
abbrev pub host_line : (number : ℕ) → Option Prefix → HostOrder → Line
host_line number prefix order = record { number = number; prefix = prefix; action = AtHost order }

-- what the line makes of it, where it is on
abbrev pub host_line_fate : (reads : List ℕ → Received) → Scene → (number : ℕ) → DateParts → Option Prefix → HostOrder → HostFate
host_line_fate reads w number created prefix order = host_fate prefix w.host (host_turn_of reads w (moment_of number) created order)

pub host_line_fate_is : (reads : List ℕ → Received) (w : Scene) (old : Doubt) (kept number : ℕ) (created : DateParts) (prefix : Option Prefix) (order : HostOrder) → w.host.on ≡ true
    → SameHostFate w (fate reads w old kept created (host_line number prefix order)) (host_line_fate reads w number created prefix order)
host_line_fate_is reads w old kept number created prefix order on =
    subst (λ f. SameHostFate w f (host_line_fate reads w number created prefix order)) (sym (cond-true w.host.on _ _ on)) (same_of prefix w (host_turn_of reads w (moment_of number) created order))

module _ {T H : Type 0} (of_terminal : T → TerminalState → List ℕ → Doubt → Type 0) (of_host : H → HostState → Doubt → Type 0) where
  abbrev Stands : H → List T → Scene → Doubts → Type 0
  Stands host terminals w doubts = NetworkCorresponds of_terminal of_host host terminals w doubts

  -- the host changes, and nothing arrives
  pub host_changes : (host new : H) (terminals : List T) (w : Scene) (doubts : Doubts) (state : HostState) (doubt : Doubt)
      → Stands host terminals w doubts → of_host new state doubt → Stands new terminals (with_host w state) (with_doubt doubts Host doubt)
  host_changes host new terminals w doubts state doubt stands is =
      record { host_is = is; same = stands.same; same_counted = stands.same_counted; same_doubts = stands.same_doubts; each = stands.each }

  -- nothing arrives
  pub nothing_arrives : (host : H) (terminals : List T) (w : Scene) (doubts : Doubts) → Stands host terminals w doubts → Stands host terminals (arrived w w.host 0 [] false) doubts
  nothing_arrives host terminals w doubts stands = subst (λ v. Stands host terminals v doubts) (quiet w w.host) stands

  -- nor does it count
  pub no_answer_arrives : (host : H) (terminals : List T) (w : Scene) (doubts : Doubts) (receiver : ℕ) → Stands host terminals w doubts → Stands host terminals (arrived w w.host receiver [] true) doubts
  no_answer_arrives host terminals w doubts receiver stands =
      subst (λ (l : List (List ℕ)). Stands host terminals (record { host = w.host; terminals = delivered w.terminals receiver []; counted = l }) doubts) (sym (noted_none w.counted w.terminals receiver))
      (subst (λ (l : List TerminalState). Stands host terminals (record { host = w.host; terminals = l; counted = w.counted }) doubts) (sym (delivered_none w.terminals receiver)) stands)

  -- messages arrive at a terminal, and count or not
  arrives : (host : H) (terminals : List T) (w : Scene) (doubts : Doubts) (receiver : ℕ) (t : T) (s : TerminalState) (replies : List Message) (counts : Bool)
      → Stands host terminals w doubts → slice_get w.terminals receiver ≡ Some s
      → of_terminal t (answered s replies) (places_after (counted_at w.counted receiver) s replies counts) (doubt_at doubts (Terminal receiver))
      → Stands host (slice_set terminals receiver t) (arrived w w.host receiver replies counts) doubts
  arrives host terminals w doubts receiver t s replies counts stands there is =
      let places = places_after (counted_at w.counted receiver) s replies counts in
      let changed = place_changes of_terminal of_host host terminals w doubts receiver t s (answered s replies) places (doubt_at doubts (Terminal receiver)) stands there is in
      subst (λ d. Stands host (slice_set terminals receiver t) (arrived w w.host receiver replies counts) d)
      (ap (λ (l : List Doubt). let d : Doubts = record { host = doubts.host; terminals = l } in d) (doubts_as_they_are doubts.terminals receiver))
      (subst (λ (l : List (List ℕ)). Stands host (slice_set terminals receiver t) (record { host = w.host; terminals = delivered w.terminals receiver replies; counted = l }) (with_doubt doubts (Terminal receiver) (doubt_at doubts (Terminal receiver)))) (counted_so counts)
      (subst (λ (l : List TerminalState). Stands host (slice_set terminals receiver t) (record { host = w.host; terminals = l; counted = slice_set w.counted receiver places }) (with_doubt doubts (Terminal receiver) (doubt_at doubts (Terminal receiver)))) (sym (delivered_set w.terminals receiver s replies there)) changed))
    where
      counted_so : (counts : Bool) → slice_set w.counted receiver (places_after (counted_at w.counted receiver) s replies counts) ≡ (if counts then noted w.counted w.terminals receiver replies else w.counted)
      counted_so true = sym (noted_set w.counted w.terminals receiver s replies there)
      counted_so false = counted_as_they_are w.counted receiver

  -- answers that count
  pub answers_arrive : (host : H) (terminals : List T) (w : Scene) (doubts : Doubts) (receiver : ℕ) (t : T) (s : TerminalState) (replies : List Message)
      → Stands host terminals w doubts → slice_get w.terminals receiver ≡ Some s
      → of_terminal t (answered s replies) (counted_at w.counted receiver ++ places_from (length s.answers) replies) (doubt_at doubts (Terminal receiver))
      → Stands host (slice_set terminals receiver t) (arrived w w.host receiver replies true) doubts
  answers_arrive host terminals w doubts receiver t s replies stands there is = arrives host terminals w doubts receiver t s replies true stands there is

  -- answers that don't: the network stays as it is, where a terminal stands to one with any more answers of this sort
  pub answers_are_dropped : (host : H) (terminals : List T) (w : Scene) (doubts : Doubts) (receiver : ℕ) (replies : List Message)
      → ((t : T) (s : TerminalState) (places : List ℕ) (doubt : Doubt) → of_terminal t s places doubt → of_terminal t (answered s replies) places doubt)
      → Stands host terminals w doubts → Stands host terminals (arrived w w.host receiver replies false) doubts
  answers_are_dropped host terminals w doubts receiver replies still stands = by_receiver (slice_get w.terminals receiver) refl (slice_get terminals receiver) refl
    where
      nowhere : slice_get w.terminals receiver ≡ None → Stands host terminals (arrived w w.host receiver replies false) doubts
      nowhere nobody = subst (λ (l : List TerminalState). Stands host terminals (record { host = w.host; terminals = l; counted = w.counted }) doubts) (sym (delivered_nowhere w.terminals receiver replies nobody)) stands

      by_receiver : (found : Option TerminalState) → slice_get w.terminals receiver ≡ found → (mine : Option T) → slice_get terminals receiver ≡ mine → Stands host terminals (arrived w w.host receiver replies false) doubts
      by_receiver None nobody mine at = nowhere nobody
      by_receiver (Some s) there None at = absurd (never_fewer terminals w.terminals receiver s stands.same there at)
      by_receiver (Some s) there (Some t) at =
          let so = arrives host terminals w doubts receiver t s replies false stands there (still t s (counted_at w.counted receiver) (doubt_at doubts (Terminal receiver)) (stands.each receiver t s at there)) in
          subst (λ l. Stands host l (arrived w w.host receiver replies false) doubts) (same_there terminals receiver t at) so

  -- a line at a host that is on was done, if the host now stands to its fate, and the receiver's answers do
  pub host_acted : (reads : List ℕ → Received) (host new : H) (after : List T) (w : Scene) (doubts : Doubts) (number : ℕ) (created : DateParts) (prefix : Option Prefix) (order : HostOrder) (outcome : Outcome)
      → w.host.on ≡ true → IsMoment (moment_of number) created
      → Stands host after (arrived w w.host (host_line_fate reads w number created prefix order).receiver (host_line_fate reads w number created prefix order).replies (host_line_fate reads w number created prefix order).counts) doubts
      → of_host new (host_line_fate reads w number created prefix order).state (host_line_fate reads w number created prefix order).doubt
      → outcome ≡ (host_line_fate reads w number created prefix order).outcome
      → Acted reads (Stands new after) w doubts (host_line number prefix order) outcome
  host_acted reads host new after w doubts number created prefix order outcome on at stands is said =
      let old = doubts.host in
      let line = host_line number prefix order in
      let end = host_line_fate reads w number created prefix order in
      let same = host_line_fate_is reads w old old.least number created prefix order on in
      let changed = host_changes host new after (arrived w w.host end.receiver end.replies end.counts) doubts end.state end.doubt stands is in (
        created,
        old.least,
        at,
        inl refl,
        (
          subst (λ v. Stands new after v (with_doubt doubts Host (fate reads w old old.least created line).doubt)) (sym same.scene)
              (subst (λ d. Stands new after (arrived w end.state end.receiver end.replies end.counts) (with_doubt doubts Host d)) (sym same.doubt) changed),
          said ∙ sym same.outcome,
        ),
      )

-- the state to which a host stands that is on
pub host_state_is : (has : List ℕ → List HostEntry → Type 0) (images : List ℕ → Type 0) (entries : List HostEntry) (s : HostState) (doubt : Doubt)
    → EndCorresponds has images true entries s.settled s.tried s.on doubt → s ≡ record { settled = entries; tried = []; on = true }
host_state_is has images entries s doubt stands =
    ap (λ l. let t : HostState = record { settled = l; tried = s.tried; on = s.on } in t) (sym (stands.entries_are refl))
    ∙ (ap (λ l. let t : HostState = record { settled = entries; tried = l; on = s.on } in t) (stands.none_tried refl)
    ∙ ap (λ b. let t : HostState = record { settled = entries; tried = []; on = b } in t) (sym stands.on_is))

-- a terminal with more answers that don't count stands as before
pub terminal_still : (has : List ℕ → List TermEntry → Type 0) (images : List ℕ → Type 0) (on : Bool) (entries : List TermEntry) (sent answers : List Message) (s : TerminalState) (places : List ℕ) (doubt : Doubt) (replies : List Message)
    → TerminalCorresponds has images on entries sent answers s places doubt → TerminalCorresponds has images on entries sent answers (answered s replies) places doubt
terminal_still has images on entries sent answers s places doubt replies stands =
    record { end = stands.end; sent_is = stands.sent_is; answers_are = counted_still s.answers replies places answers stands.answers_are }

-- with more that do, once it has them
pub terminal_answered : (has : List ℕ → List TermEntry → Type 0) (images : List ℕ → Type 0) (on : Bool) (entries : List TermEntry) (sent answers : List Message) (s : TerminalState) (places : List ℕ) (doubt : Doubt) (replies : List Message)
    → TerminalCorresponds has images on entries sent answers s places doubt
    → TerminalCorresponds has images on entries sent (answers ++ replies) (answered s replies) (places ++ places_from (length s.answers) replies) doubt
terminal_answered has images on entries sent answers s places doubt replies stands =
    record { end = stands.end; sent_is = stands.sent_is; answers_are = counted_more s.answers replies places answers stands.answers_are }

-- an opening of the host
failed_opening : (w : Scene) (old : Doubt) (kept : ℕ) (first : Bool)
    → SameHostFate w (fate_broken (host_opens w old first kept) (host_opens w old first kept).doubt DiskFailed)
    (if first then host_stays (host_left_off w.host) old DiskFailed else host_stays (host_reopened false kept w.host) (no_doubt 0) DiskFailed)
failed_opening w old kept true = record { scene = quiet w _; doubt = refl; outcome = refl }
failed_opening w old kept false = record { scene = quiet w _; doubt = refl; outcome = refl }

-- the line that opens the host again
abbrev pub host_opening_line : (number : ℕ) → Option Prefix → Line
host_opening_line number prefix = record { number = number; prefix = prefix; action = Reopen Host }

host_opening_fate : (reads : List ℕ → Received) (prefix : Option Prefix) (w : Scene) (old : Doubt) (kept number : ℕ) (created : DateParts)
    → SameHostFate w (fate reads w old kept created (host_opening_line number prefix)) (host_opening prefix old kept w.host)
host_opening_fate reads None w old kept number created = record { scene = quiet w _; doubt = refl; outcome = refl }
host_opening_fate reads (Some (Cut call fill)) w old kept number created =
    either w (nat_le call 2) _ _ _ _ (record { scene = quiet w _; doubt = refl; outcome = refl }) (record { scene = quiet w _; doubt = refl; outcome = refl })
host_opening_fate reads (Some (Fail call fill)) w old kept number created =
    either w (nat_le call 2) _ _ _ _ (failed_opening w old kept (call == 1)) (record { scene = quiet w _; doubt = refl; outcome = refl })
host_opening_fate reads (Some CutAfter) w old kept number created = record { scene = quiet w _; doubt = refl; outcome = refl }

-- nothing arrives where it is opened
abbrev IsQuiet : Scene → HostFate → Type 0
IsQuiet w e = with_host w e.state ≡ arrived w e.state e.receiver e.replies e.counts

arrives_nothing : (prefix : Option Prefix) (w : Scene) (old : Doubt) (kept : ℕ) → IsQuiet w (host_opening prefix old kept w.host)
arrives_nothing None w old kept = quiet w _
arrives_nothing (Some (Cut call fill)) w old kept = cond_both (nat_le call 2) _ _ (IsQuiet w) (λ _. quiet w _) (λ _. quiet w _)
arrives_nothing (Some (Fail call fill)) w old kept =
    cond_both (nat_le call 2) _ _ (IsQuiet w) (λ _. cond_both (call == 1) _ _ (IsQuiet w) (λ _. quiet w _) (λ _. quiet w _)) (λ _. quiet w _)
arrives_nothing (Some CutAfter) w old kept = quiet w _

module _ {T H : Type 0} (of_terminal : T → TerminalState → List ℕ → Doubt → Type 0) (of_host : H → HostState → Doubt → Type 0) where
  abbrev Stood : H → List T → Scene → Doubts → Type 0
  Stood host terminals w doubts = NetworkCorresponds of_terminal of_host host terminals w doubts

  -- a line that opens the host again was done, if the host now stands to its fate
  pub host_was_reopened : (reads : List ℕ → Received) (host new : H) (terminals : List T) (w : Scene) (doubts : Doubts) (number kept : ℕ) (created : DateParts) (prefix : Option Prefix) (outcome : Outcome)
      → Stood host terminals w doubts → IsMoment (moment_of number) created → MayKeep doubts.host kept
      → of_host new (host_opening prefix doubts.host kept w.host).state (host_opening prefix doubts.host kept w.host).doubt
      → outcome ≡ (host_opening prefix doubts.host kept w.host).outcome
      → Acted reads (Stood new terminals) w doubts (host_opening_line number prefix) outcome
  host_was_reopened reads host new terminals w doubts number kept created prefix outcome stands at keeps is said =
      let line = host_opening_line number prefix in
      let end = host_opening prefix doubts.host kept w.host in
      let same = host_opening_fate reads prefix w doubts.host kept number created in
      let changed = host_changes of_terminal of_host host new terminals w doubts end.state end.doubt stands is in
      let still : with_host w end.state ≡ arrived w end.state end.receiver end.replies end.counts = arrives_nothing prefix w doubts.host kept in (
        created,
        kept,
        at,
        keeps,
        (
          subst (λ v. Stood new terminals v (with_doubt doubts Host (fate reads w doubts.host kept created line).doubt)) (still ∙ sym same.scene)
              (subst (λ d. Stood new terminals (with_host w end.state) (with_doubt doubts Host d)) (sym same.doubt) changed),
          said ∙ sym same.outcome,
        ),
      )

  -- at a schedule's end a host that is off was opened again, if it now stands to what it kept
  pub host_closed : (host new : H) (terminals : List T) (w : Scene) (doubts : Doubts) (kept : ℕ)
      → Stood host terminals w doubts → w.host.on ≡ false → MayKeep doubts.host kept → of_host new (host_reopened true kept w.host) doubts.host
      → Reopened (Stood new terminals) w doubts Host
  host_closed host new terminals w doubts kept stands off keeps is =
      let changed = host_changes of_terminal of_host host new terminals w doubts (host_reopened true kept w.host) doubts.host stands is in
      (kept, keeps, subst (λ (f : Fate). Stood new terminals f.scene doubts) (sym (cond-false w.host.on _ _ off)) changed)

  -- one that is on stays so
  pub host_stays_on : (host : H) (terminals : List T) (w : Scene) (doubts : Doubts) → Stood host terminals w doubts → w.host.on ≡ true → Reopened (Stood host terminals) w doubts Host
  host_stays_on host terminals w doubts stands on =
      (doubts.host.least, inl refl, subst (λ (f : Fate). Stood host terminals f.scene doubts) (sym (cond-true w.host.on _ _ on)) stands)

  -- every end is on: the images of each disk have exactly its end's entries
  pub disks_have : (terminal_has : T → List TermEntry → Type 0) (host_has : H → List HostEntry → Type 0)
      → ((t : T) (s : TerminalState) (places : List ℕ) (doubt : Doubt) → of_terminal t s places doubt → s.on ≡ true → terminal_has t s.settled)
      → ((h : H) (s : HostState) (doubt : Doubt) → of_host h s doubt → s.on ≡ true → host_has h s.settled)
      → (host : H) (terminals : List T) (w : Scene) (doubts : Doubts) → Stood host terminals w doubts → AllOn w → DisksHave terminal_has host_has host terminals w
  disks_have terminal_has host_has t_has h_has host terminals w doubts stands on = record {
    host_is = h_has host w.host doubts.host stands.host_is on.host;
    same = stands.same;
    each = λ place t s at there. t_has t s (counted_at w.counted place) (doubt_at doubts (Terminal place)) (stands.each place t s at there) (on.terminals place s there);
  }
