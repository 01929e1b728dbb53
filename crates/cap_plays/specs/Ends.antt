-- What one terminal does in a line is what the line makes of the scene.
use Rattle.std.proofs.Common.{◌≡◌, ◌⊎◌, ℕ, zero, suc, ◌+◌, ◌-◌, ◌<◌, Bool, true, false, List, [], ◌∷◌, ◌++◌, length, Option, Some, None, refl, sym, ◌∙◌, ap, subst, inl, inr, ⊎_elim, append-nil, arith}
use Rattle.std.specs.Prelude.{slice_get, slice_set, nat_le, if◌then◌else◌}
use Rattle.std.proofs.lemmas.Bool.{cond-true, cond-false, lt-leb}
use Rattle.std.proofs.Math.Seq.{take-length, take-nil}
use Rattle.std.proofs.lemmas.Option.{same_Some, none-some, slice_get_within}
use Rattle.cap_leaf.specs.Date.{DateParts}
use Rattle.cap_msgs.specs.Received.{Received}
use Rattle.cap_msgs.specs.Moment.{IsMoment}
use Rattle.cap_msgs.specs.declared.message.Message.{Message}
use Rattle.cap_entries.specs.declared.terminal.TermEntry.{TermEntry}
use Rattle.cap_ledger.specs.Adding.{calls_for}
use Rattle.cap_schedule.specs.declared.outcome.Outcome.{Outcome}
use Rattle.cap_schedule.specs.declared.schedule.End.TheVariants.{Terminal}
use Rattle.cap_schedule.specs.declared.schedule.Prefix.{Prefix}
use Rattle.cap_schedule.specs.declared.schedule.Prefix.TheVariants.{Cut, Fail, CutAfter}
use Rattle.cap_schedule.specs.declared.schedule.Action.TheVariants.{AtTerminal}
use Rattle.cap_schedule.specs.declared.schedule.Line.{Line}
use Rattle.cap_schedule.specs.declared.schedule.Order.{Order}
use Rattle.cap_world.specs.World.{TerminalState, HostState}
use Rattle.cap_plays.specs.Turns.{Scene, counted_at, places_or_none, Work, worked, Turn, turn_of}
use Rattle.cap_plays.specs.Plays.{Doubt, no_doubt, MayKeep, in_doubt, made, all_made, plan_of_turn, terminal_plan, Fate, fate, fate_of, fate_whole, fate_in, fate_after, fate_cut_after, terminal_off, interrupted, reopened, left_off, with_terminal, moment_of, is_on, terminal_is_on, Doubts, doubt_at, doubt_or_none, with_doubt}
use Rattle.cap_plays.specs.Corresponds.{Holds, EachHas, EachHasEither, HasOne, TerminalCorresponds, EndFate, end_whole, end_in, end_after, end_cut_after, end_fate, NetworkCorresponds}
use Rattle.cap_plays.specs.Holding.{end_added, end_broken, end_cut, end_goes_off, end_fewer, end_opened, end_opening_broken, end_opening_failed}
use Rattle.cap_plays.specs.Session.{Acted}

-- lists that are written at a place
pub there_set : {A : Type 0} (list : List A) (place : ℕ) (x y : A) → slice_get list place ≡ Some x → slice_get (slice_set list place y) place ≡ Some y
there_set [] place x y there = absurd (none-some x there)
there_set (a ∷ list) zero x y there = refl
there_set (a ∷ list) (suc place) x y there = there_set list place x y there

set_twice : {A : Type 0} (list : List A) (place : ℕ) (x y : A) → slice_set (slice_set list place x) place y ≡ slice_set list place y
set_twice [] place x y = refl
set_twice (a ∷ list) zero x y = refl
set_twice (a ∷ list) (suc place) x y = ap (λ l. a ∷ l) (set_twice list place x y)

set_there : {A : Type 0} (list : List A) (place : ℕ) (x : A) → slice_get list place ≡ Some x → slice_set list place x ≡ list
set_there [] place x there = refl
set_there (a ∷ list) zero x there = ap (λ b. b ∷ list) (sym (same_Some _ _ there))
set_there (a ∷ list) (suc place) x there = ap (λ l. a ∷ l) (set_there list place x there)

pub set_length : {A : Type 0} (list : List A) (place : ℕ) (x : A) → length (slice_set list place x) ≡ length list
set_length [] place x = refl
set_length (a ∷ list) zero x = refl
set_length (a ∷ list) (suc place) x = ap suc (set_length list place x)

get_same : {A : Type 0} (list : List A) (place : ℕ) (x y : A) → slice_get (slice_set list place x) place ≡ Some y → y ≡ x
get_same [] place x y e = absurd (none-some y e)
get_same (a ∷ list) zero x y e = sym (same_Some _ _ e)
get_same (a ∷ list) (suc place) x y e = get_same list place x y e

get_other : {A : Type 0} (list : List A) (i place : ℕ) (x : A) → (place ≡ i → ⊥) → slice_get (slice_set list i x) place ≡ slice_get list place
get_other [] i place x other = refl
get_other (a ∷ list) zero zero x other = absurd (other refl)
get_other (a ∷ list) zero (suc place) x other = refl
get_other (a ∷ list) (suc i) zero x other = refl
get_other (a ∷ list) (suc i) (suc place) x other = get_other list i place x (λ e. other (ap suc e))

get_set : {A : Type 0} (list : List A) (place : ℕ) (x : A) → place < length list → slice_get (slice_set list place x) place ≡ Some x
get_set [] place x lt = absurd (none_less lt)
  where
    none_less : place < 0 → ⊥
    none_less lt = omega (arith, lt)
get_set (a ∷ list) zero x lt = refl
get_set (a ∷ list) (suc place) x lt = get_set list place x (omega (arith, lt))

same_or_not : (a b : ℕ) → (a ≡ b) ⊎ (a ≡ b → ⊥)
same_or_not zero zero = inl refl
same_or_not zero (suc b) = inr (λ e. omega (arith, e))
same_or_not (suc a) zero = inr (λ e. omega (arith, e))
same_or_not (suc a) (suc b) = ⊎_elim (λ e. inl (ap suc e)) (λ not_same. inr (λ e. not_same (omega (arith, e)))) (same_or_not a b)

pub doubts_as_they_are : (list : List Doubt) (place : ℕ) → slice_set list place (doubt_or_none (slice_get list place)) ≡ list
doubts_as_they_are [] place = refl
doubts_as_they_are (d ∷ list) zero = refl
doubts_as_they_are (d ∷ list) (suc place) = ap (λ l. d ∷ l) (doubts_as_they_are list place)

pub counted_as_they_are : (list : List (List ℕ)) (place : ℕ) → slice_set list place (places_or_none (slice_get list place)) ≡ list
counted_as_they_are [] place = refl
counted_as_they_are (d ∷ list) zero = refl
counted_as_they_are (d ∷ list) (suc place) = ap (λ l. d ∷ l) (counted_as_they_are list place)

with_twice : (w : Scene) (place : ℕ) (a b : TerminalState) → with_terminal (with_terminal w place a) place b ≡ with_terminal w place b
with_twice w place a b = ap (λ (l : List TerminalState). let v : Scene = record { host = w.host; terminals = l; counted = w.counted } in v) (set_twice w.terminals place a b)

with_there : (w : Scene) (place : ℕ) (s : TerminalState) → slice_get w.terminals place ≡ Some s → w ≡ with_terminal w place s
with_there w place s there = ap (λ (l : List TerminalState). let v : Scene = record { host = w.host; terminals = l; counted = w.counted } in v) (sym (set_there w.terminals place s there))

-- what a line makes of the scene is what it makes of one terminal
pub record SameFate (w : Scene) (place : ℕ) (fate : Fate) (end : EndFate) : Type 0 where
  pub scene : fate.scene ≡ with_terminal w place end.state
  pub doubt : fate.doubt ≡ end.doubt
  pub outcome : fate.outcome ≡ end.outcome

same_whole : (w : Scene) (place : ℕ) (s : TerminalState) (works : List Work) (outcome : Outcome) → slice_get w.terminals place ≡ Some s → SameFate w place (fate_whole w (all_made w place s works) outcome) (end_whole s works outcome)
same_whole w place s [] outcome there = record { scene = with_there w place s there; doubt = refl; outcome = refl }
same_whole w place s (work ∷ works) outcome there =
    let next = with_terminal w place (worked s work) in
    let same = same_whole next place (worked s work) works outcome (there_set w.terminals place s (worked s work) there) in
    record { scene = same.scene ∙ with_twice w place (worked s work) _; doubt = same.doubt; outcome = same.outcome }

pub same_either : (w : Scene) (place : ℕ) (b : Bool) (x y : Fate) (p q : EndFate) → SameFate w place x p → SameFate w place y q → SameFate w place (if b then x else y) (if b then p else q)
same_either w place true x y p q one other = one
same_either w place false x y p q one other = other

same_in : (w : Scene) (place : ℕ) (s : TerminalState) (works : List Work) (outcome ended : Outcome) (c : ℕ) → slice_get w.terminals place ≡ Some s → SameFate w place (fate_in w (all_made w place s works) outcome ended c) (end_in s works outcome ended c)
same_in w place s [] outcome ended c there = record { scene = with_there w place s there; doubt = refl; outcome = refl }
same_in w place s (work ∷ works) outcome ended c there =
    let next = with_terminal w place (worked s work) in
    let same = same_in next place (worked s work) works outcome ended (c - calls_for work.added) (there_set w.terminals place s (worked s work) there) in
    same_either w place (nat_le c (calls_for work.added)) _ _ _ _
    (record { scene = refl; doubt = refl; outcome = refl })
    (record { scene = same.scene ∙ with_twice w place (worked s work) _; doubt = same.doubt; outcome = same.outcome })

same_after : (w : Scene) (place : ℕ) (s : TerminalState) (work : Work) (works : List Work) → slice_get w.terminals place ≡ Some s
    → SameFate w place (fate_after (made w place s work) (all_made (with_terminal w place (worked s work)) place (worked s work) works)) (end_after s work works)
same_after w place s work [] there = record { scene = refl; doubt = refl; outcome = refl }
same_after w place s work (next ∷ works) there =
    let same = same_after (with_terminal w place (worked s work)) place (worked s work) next works (there_set w.terminals place s (worked s work) there) in
    record { scene = same.scene ∙ with_twice w place (worked s work) _; doubt = same.doubt; outcome = same.outcome }

same_off : (w : Scene) (place : ℕ) (s : TerminalState) (found : Option TerminalState) → found ≡ Some s → SameFate w place (terminal_off w place found) (end_cut_after s [])
same_off w place s None there = absurd (none-some s there)
same_off w place s (Some t) there = record { scene = ap (λ (u : TerminalState). with_terminal w place (reopened false 0 u)) (same_Some _ _ there); doubt = refl; outcome = refl }

same_cut_after : (w : Scene) (place : ℕ) (s : TerminalState) (works : List Work) → slice_get w.terminals place ≡ Some s → SameFate w place (fate_cut_after w (Terminal place) (all_made w place s works)) (end_cut_after s works)
same_cut_after w place s [] there = same_off w place s (slice_get w.terminals place) there
same_cut_after w place s (work ∷ works) there = same_after w place s work works there

same_of : (prefix : Option Prefix) (w : Scene) (place : ℕ) (s : TerminalState) (turn : Turn) → slice_get w.terminals place ≡ Some s → SameFate w place (fate_of prefix w (Terminal place) (plan_of_turn w place s turn)) (end_fate prefix s turn)
same_of None w place s turn there = same_whole w place s turn.works turn.outcome there
same_of (Some (Cut call fill)) w place s turn there = same_in w place s turn.works turn.outcome _ call there
same_of (Some (Fail call fill)) w place s turn there = same_in w place s turn.works turn.outcome _ call there
same_of (Some CutAfter) w place s turn there = same_cut_after w place s turn.works there

same_plan : (prefix : Option Prefix) (w : Scene) (place : ℕ) (s : TerminalState) (found : Option TerminalState) (turn : TerminalState → Turn) → slice_get w.terminals place ≡ Some s → found ≡ Some s
    → SameFate w place (fate_of prefix w (Terminal place) (terminal_plan found (λ t. plan_of_turn w place t (turn t)))) (end_fate prefix s (turn s))
same_plan prefix w place s None turn there is = absurd (none-some s is)
same_plan prefix w place s (Some t) turn there is =
    subst (λ (u : TerminalState). SameFate w place (fate_of prefix w (Terminal place) (plan_of_turn w place u (turn u))) (end_fate prefix s (turn s))) (sym (same_Some _ _ is)) (same_of prefix w place s (turn s) there)

-- the line of a terminal
abbrev pub terminal_line : (number place : ℕ) → Option Prefix → Order → Line
terminal_line number place prefix order = record { number = number; prefix = prefix; action = AtTerminal place order }

-- what the line makes of it, where it is on
abbrev pub terminal_fate : (reads : List ℕ → Received) → Scene → (number place : ℕ) → DateParts → Option Prefix → Order → TerminalState → EndFate
terminal_fate reads w number place created prefix order s = end_fate prefix s (turn_of reads s (counted_at w.counted place) (moment_of number) created order)

pub terminal_fate_is : (reads : List ℕ → Received) (w : Scene) (old : Doubt) (kept number place : ℕ) (created : DateParts) (prefix : Option Prefix) (order : Order) (s : TerminalState) → slice_get w.terminals place ≡ Some s → s.on ≡ true
    → SameFate w place (fate reads w old kept created (terminal_line number place prefix order)) (terminal_fate reads w number place created prefix order s)
terminal_fate_is reads w old kept number place created prefix order s there on =
    let possible : is_on w (Terminal place) ≡ true = subst (λ o. terminal_is_on o ≡ true) (sym there) on in
    subst (λ f. SameFate w place f (terminal_fate reads w number place created prefix order s)) (sym (cond-true (is_on w (Terminal place)) _ _ possible))
    (same_plan prefix w place s (slice_get w.terminals place) (λ t. turn_of reads t (counted_at w.counted place) (moment_of number) created order) there there)

-- one terminal of the network changes, and which of its answers count
module _ {T H : Type 0} (of_terminal : T → TerminalState → List ℕ → Doubt → Type 0) (of_host : H → HostState → Doubt → Type 0) where
  abbrev Stands : H → List T → Scene → Doubts → Type 0
  Stands host terminals w doubts = NetworkCorresponds of_terminal of_host host terminals w doubts

  pub place_changes : (host : H) (terminals : List T) (w : Scene) (doubts : Doubts) (place : ℕ) (t : T) (s new : TerminalState) (places : List ℕ) (doubt : Doubt)
      → Stands host terminals w doubts → slice_get w.terminals place ≡ Some s → of_terminal t new places doubt
      → Stands host (slice_set terminals place t) (record { host = w.host; terminals = slice_set w.terminals place new; counted = slice_set w.counted place places }) (with_doubt doubts (Terminal place) doubt)
  place_changes host terminals w doubts place t s new places doubt stands there is = record {
    host_is = stands.host_is;
    same = set_length terminals place t ∙ stands.same ∙ sym (set_length w.terminals place new);
    same_counted = set_length w.counted place places ∙ stands.same_counted ∙ sym (set_length w.terminals place new);
    same_doubts = set_length doubts.terminals place doubt ∙ stands.same_doubts ∙ sym (set_length w.terminals place new);
    each = λ other u v at at'.
        ⊎_elim
        (λ (e : other ≡ place).
        let is_t : u ≡ t = get_same terminals place t u (subst (λ n. slice_get (slice_set terminals place t) n ≡ Some u) e at) in
        let is_new : v ≡ new = get_same w.terminals place new v (subst (λ n. slice_get (slice_set w.terminals place new) n ≡ Some v) e at') in
        let within : place < length w.terminals = slice_get_within w.terminals place s there in
        let d : doubt_or_none (slice_get (slice_set doubts.terminals place doubt) other) ≡ doubt =
        ap (λ n. doubt_or_none (slice_get (slice_set doubts.terminals place doubt) n)) e ∙ ap doubt_or_none (get_set doubts.terminals place doubt (subst (λ n. place < n) (sym stands.same_doubts) within)) in
        let c : places_or_none (slice_get (slice_set w.counted place places) other) ≡ places =
        ap (λ n. places_or_none (slice_get (slice_set w.counted place places) n)) e ∙ ap places_or_none (get_set w.counted place places (subst (λ n. place < n) (sym stands.same_counted) within)) in
        subst (λ x. of_terminal x v (places_or_none (slice_get (slice_set w.counted place places) other)) (doubt_or_none (slice_get (slice_set doubts.terminals place doubt) other))) (sym is_t)
        (subst (λ y. of_terminal t y (places_or_none (slice_get (slice_set w.counted place places) other)) (doubt_or_none (slice_get (slice_set doubts.terminals place doubt) other))) (sym is_new)
        (subst (λ q. of_terminal t new q (doubt_or_none (slice_get (slice_set doubts.terminals place doubt) other))) (sym c)
        (subst (λ z. of_terminal t new places z) (sym d) is))))
        (λ (apart : other ≡ place → ⊥).
        subst (λ o. of_terminal u v (places_or_none (slice_get (slice_set w.counted place places) other)) (doubt_or_none o)) (sym (get_other doubts.terminals place other doubt apart))
        (subst (λ o. of_terminal u v (places_or_none o) (doubt_or_none (slice_get doubts.terminals other))) (sym (get_other w.counted place other places apart))
        (stands.each other u v (sym (get_other terminals place other t apart) ∙ at) (sym (get_other w.terminals place other new apart) ∙ at'))))
        (same_or_not other place);
  }

  -- the same where its answers stay
  pub terminal_changes : (host : H) (terminals : List T) (w : Scene) (doubts : Doubts) (place : ℕ) (t : T) (s new : TerminalState) (doubt : Doubt)
      → Stands host terminals w doubts → slice_get w.terminals place ≡ Some s → of_terminal t new (counted_at w.counted place) doubt
      → Stands host (slice_set terminals place t) (with_terminal w place new) (with_doubt doubts (Terminal place) doubt)
  terminal_changes host terminals w doubts place t s new doubt stands there is =
      subst (λ (l : List (List ℕ)). Stands host (slice_set terminals place t) (record { host = w.host; terminals = slice_set w.terminals place new; counted = l }) (with_doubt doubts (Terminal place) doubt))
      (counted_as_they_are w.counted place)
      (place_changes host terminals w doubts place t s new (counted_at w.counted place) doubt stands there is)

  -- its terminal may be another one that stands to the same state
  pub terminal_replaced : (host : H) (terminals : List T) (w : Scene) (doubts : Doubts) (place : ℕ) (t : T) (s : TerminalState)
      → Stands host terminals w doubts → slice_get w.terminals place ≡ Some s → of_terminal t s (counted_at w.counted place) (doubt_at doubts (Terminal place))
      → Stands host (slice_set terminals place t) w doubts
  terminal_replaced host terminals w doubts place t s stands there is =
      let changed = terminal_changes host terminals w doubts place t s s (doubt_at doubts (Terminal place)) stands there is in
      subst (λ v. Stands host (slice_set terminals place t) v doubts) (sym (with_there w place s there))
      (subst (λ d. Stands host (slice_set terminals place t) (with_terminal w place s) d)
      (ap (λ (l : List Doubt). let d : Doubts = record { host = doubts.host; terminals = l } in d) (doubts_as_they_are doubts.terminals place)) changed)

  -- a line at a terminal that is on was done, if its end now stands to its fate
  pub terminal_acted : (reads : List ℕ → Received) (host : H) (terminals : List T) (w : Scene) (doubts : Doubts) (number place : ℕ) (created : DateParts) (prefix : Option Prefix) (order : Order) (t : T) (s : TerminalState) (outcome : Outcome)
      → Stands host terminals w doubts → slice_get w.terminals place ≡ Some s → s.on ≡ true → IsMoment (moment_of number) created
      → of_terminal t (terminal_fate reads w number place created prefix order s).state (counted_at w.counted place) (terminal_fate reads w number place created prefix order s).doubt
      → outcome ≡ (terminal_fate reads w number place created prefix order s).outcome
      → Acted reads (Stands host (slice_set terminals place t)) w doubts (terminal_line number place prefix order) outcome
  terminal_acted reads host terminals w doubts number place created prefix order t s outcome stands there on at is said =
      let old = doubt_at doubts (Terminal place) in
      let line = terminal_line number place prefix order in
      let end = terminal_fate reads w number place created prefix order s in
      let same = terminal_fate_is reads w old old.least number place created prefix order s there on in
      let changed = terminal_changes host terminals w doubts place t s end.state end.doubt stands there is in (
        created,
        old.least,
        at,
        inl refl,
        (
          subst (λ v. Stands host (slice_set terminals place t) v (with_doubt doubts (Terminal place) (fate reads w old old.least created line).doubt)) (sym same.scene)
              (subst (λ d. Stands host (slice_set terminals place t) (with_terminal w place end.state) (with_doubt doubts (Terminal place) d)) (sym same.doubt) changed),
          said ∙ sym same.outcome,
        ),
      )

-- what the calls of a terminal say, in the words of its fate
module _ (has : List ℕ → List TermEntry → Type 0) where
  -- the state to which a terminal stands that is on
  pub state_is : (images : List ℕ → Type 0) (entries : List TermEntry) (sent answers : List Message) (s : TerminalState) (places : List ℕ) (doubt : Doubt)
      → TerminalCorresponds has images true entries sent answers s places doubt
      → s ≡ record { settled = entries; tried = []; on = true; sent = sent; answers = s.answers }
  state_is images entries sent answers s places doubt stands =
      ap (λ l. let t : TerminalState = record { settled = l; tried = s.tried; on = s.on; sent = s.sent; answers = s.answers } in t) (sym (stands.end.entries_are refl))
      ∙ (ap (λ l. let t : TerminalState = record { settled = entries; tried = l; on = s.on; sent = s.sent; answers = s.answers } in t) (stands.end.none_tried refl)
      ∙ (ap (λ b. let t : TerminalState = record { settled = entries; tried = []; on = b; sent = s.sent; answers = s.answers } in t) (sym stands.end.on_is)
      ∙ ap (λ l. let t : TerminalState = record { settled = entries; tried = []; on = true; sent = l; answers = s.answers } in t) (sym stands.sent_is)))

  -- a call added its entries
  pub call_done : (images before : List ℕ → Type 0) (old entries : List TermEntry) (sent_before sent answers : List Message) (s : TerminalState) (places : List ℕ) (doubt : Doubt) (work : Work)
      → TerminalCorresponds has before true old sent_before answers s places doubt → entries ≡ s.settled ++ work.added → sent ≡ s.sent ++ work.sent → EachHas has images entries
      → TerminalCorresponds has images true entries sent answers (worked s work) places (no_doubt 0)
  call_done images before old entries sent_before sent answers s places doubt work stands is sent_is each =
      record { end = end_added has images entries s.settled work.added is each; sent_is = sent_is; answers_are = stands.answers_are }

  -- one of its four device calls failed, with a cut or without
  pub call_broken : (images before : List ℕ → Type 0) (old entries : List TermEntry) (sent answers : List Message) (s : TerminalState) (places : List ℕ) (doubt : Doubt) (work : Work)
      → TerminalCorresponds has before true old sent answers s places doubt → EachHasEither has images s.settled (s.settled ++ work.added)
      → TerminalCorresponds has images false entries sent answers (interrupted s work) places (in_doubt work.added)
  call_broken images before old entries sent answers s places doubt work stands each =
      record { end = end_broken has images entries s.settled work.added each; sent_is = stands.sent_is; answers_are = stands.answers_are }

  -- the power goes after it
  pub call_cut_after : (images before : List ℕ → Type 0) (old entries : List TermEntry) (sent answers : List Message) (s : TerminalState) (places : List ℕ) (doubt : Doubt) (work : Work)
      → TerminalCorresponds has before true old sent answers s places doubt → EachHas has images (s.settled ++ work.added)
      → TerminalCorresponds has images false entries sent answers (interrupted s work) places (no_doubt (length work.added))
  call_cut_after images before old entries sent answers s places doubt work stands each =
      record { end = end_cut has images entries s.settled work.added each; sent_is = stands.sent_is; answers_are = stands.answers_are }

  -- the power goes in a line that makes no step
  pub goes_off : (images fewer : List ℕ → Type 0) (old entries : List TermEntry) (sent answers : List Message) (s : TerminalState) (places : List ℕ) (doubt : Doubt)
      → TerminalCorresponds has images true old sent answers s places doubt → ((image : List ℕ) → fewer image → images image)
      → TerminalCorresponds has fewer false entries sent answers (reopened false 0 s) places (no_doubt 0)
  goes_off images fewer old entries sent answers s places doubt stands is =
      record { end = end_goes_off has images fewer old entries s.settled s.tried s.on doubt stands.end is; sent_is = stands.sent_is; answers_are = stands.answers_are }

  -- its disk was armed, or it is off and its disk was restarted
  pub stands_still : (images fewer : List ℕ → Type 0) (on : Bool) (old entries : List TermEntry) (sent answers : List Message) (s : TerminalState) (places : List ℕ) (doubt : Doubt)
      → TerminalCorresponds has images on old sent answers s places doubt → (on ≡ true → entries ≡ old) → ((image : List ℕ) → fewer image → images image)
      → TerminalCorresponds has fewer on entries sent answers s places doubt
  stands_still images fewer on old entries sent answers s places doubt stands same is =
      record { end = end_fewer has images fewer on old entries s.settled s.tried s.on doubt stands.end same is; sent_is = stands.sent_is; answers_are = stands.answers_are }

  -- an opening succeeded: it gives what one of the images has
  pub opening_done : (images opened : List ℕ → Type 0) (on : Bool) (before entries : List TermEntry) (sent answers : List Message) (s : TerminalState) (places : List ℕ) (doubt : Doubt) (shown : List ℕ)
      → HasOne has → TerminalCorresponds has images on before sent answers s places doubt → images shown → has shown entries → EachHas has opened entries
      → (kept : ℕ) × MayKeep doubt kept × TerminalCorresponds has opened true entries sent answers (reopened true kept s) places (no_doubt 0)
  opening_done images opened on before entries sent answers s places doubt shown one stands is_image found each =
      let (kept, keeps, end) = end_opened has images opened on before entries s.settled s.tried s.on doubt shown one stands.end is_image found each in
      (kept, keeps, record { end = end; sent_is = stands.sent_is; answers_are = stands.answers_are })

  -- one of its two calls ended it, and one image is left: after a cut, or after a sync that succeeded
  pub opening_broken : (images left : List ℕ → Type 0) (on : Bool) (before entries : List TermEntry) (sent answers : List Message) (s : TerminalState) (places : List ℕ) (doubt : Doubt) (that : List ℕ)
      → TerminalCorresponds has images on before sent answers s places doubt → images that → ((image : List ℕ) → left image → image ≡ that)
      → (kept : ℕ) × MayKeep doubt kept × TerminalCorresponds has left false entries sent answers (reopened false kept s) places (no_doubt 0)
  opening_broken images left on before entries sent answers s places doubt that stands is_image one =
      let (kept, keeps, end) = end_opening_broken has images left on before entries s.settled s.tried s.on doubt that stands.end is_image one in
      (kept, keeps, record { end = end; sent_is = stands.sent_is; answers_are = stands.answers_are })

  -- its sync failed without a cut: what was tried stays tried
  pub opening_failed : (images left : List ℕ → Type 0) (on : Bool) (before entries : List TermEntry) (sent answers : List Message) (s : TerminalState) (places : List ℕ) (doubt : Doubt)
      → TerminalCorresponds has images on before sent answers s places doubt → ((image : List ℕ) → left image → images image)
      → TerminalCorresponds has left false entries sent answers (left_off s) places doubt
  opening_failed images left on before entries sent answers s places doubt stands fewer =
      record { end = end_opening_failed has images left on before entries s.settled s.tried s.on doubt stands.end fewer; sent_is = stands.sent_is; answers_are = stands.answers_are }

-- the power goes after a line's last step: every image has all that was tried
module _ (has : List ℕ → List TermEntry → Type 0) (images : List ℕ → Type 0) where
  abbrev HoldsFate : EndFate → Type 0
  HoldsFate end = Holds has images end.state.settled end.state.tried end.doubt

  pub after_holds : (s : TerminalState) (work : Work) (works : List Work) (outcome : Outcome) → HoldsFate (end_whole s (work ∷ works) outcome) → HoldsFate (end_after s work works)
  after_holds s work [] outcome holds = λ image left.
      let (kept, keeps, held) = holds image left in
      (length work.added, inl refl, subst (has image) (ap (λ l. s.settled ++ work.added ++ l) (take-nil kept) ∙ append-nil (s.settled ++ work.added) ∙ ap (λ l. s.settled ++ l) (sym (take-length work.added))) held)
  after_holds s work (next ∷ works) outcome holds = after_holds (worked s work) next works outcome holds

-- the device calls of a line's steps
abbrev pub calls_of : List Work → ℕ
calls_of [] = 0
calls_of (work ∷ works) = calls_for work.added + calls_of works

-- a call beyond the line's last ends nothing
pub beyond : (s : TerminalState) (works : List Work) (outcome ended : Outcome) (c : ℕ) → calls_of works < c → end_in s works outcome ended c ≡ end_whole s works outcome
beyond s [] outcome ended c lt = refl
beyond s (work ∷ works) outcome ended c lt =
    let n = calls_for work.added in
    let past : n < c = omega (arith, lt) in
    let rest : calls_of works < c - n = omega (arith, lt) in
    cond-false (nat_le c n) _ _ (lt-leb c n past) ∙ beyond (worked s work) works outcome ended (c - n) rest
