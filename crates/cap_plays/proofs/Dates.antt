-- Nothing that a schedule does depends on the dates that its messages bear: with one date in place of all, each line has the same steps and outcome.
use Rattle.std.proofs.Common.{◌≡◌, ℕ, zero, suc, ◌+◌, ◌-◌, Bool, true, false, List, [], ◌∷◌, ◌++◌, length, map, Option, Some, None, refl, sym, ◌∙◌, ap}
use Rattle.std.specs.Prelude.{slice_get, slice_set, option_map, nat_le, nat_lt, ◌==◌, if◌then◌else◌, count_by}
use Rattle.std.specs.List.{AllByRecursion}
use Rattle.std.proofs.lemmas.List.{map-append, length-map}
use Rattle.std.proofs.lemmas.Option.{slice_get-map}
use Rattle.cap_base.specs.declared.item.Item.{Item}
use Rattle.cap_leaf.specs.Date.{DateParts}
use Rattle.cap_msgs.specs.declared.message.Body.{Body}
use Rattle.cap_msgs.specs.declared.message.Message.{Message}
use Rattle.cap_msgs.specs.Received.{Received, Read}
use Rattle.cap_entries.specs.Settings.{TerminalSettings}
use Rattle.cap_entries.specs.declared.terminal.TermEntry.TheVariants.{Cancelled, Closed}
use Rattle.cap_entries.specs.declared.host.HostEntry.{HostEntry}
use Rattle.cap_entries.specs.Entry.{is_any_begin, is_pending, amount_of, max_of}
use Rattle.cap_entries.specs.Floor.{floor}
use Rattle.cap_entries.specs.Allowed.{allowed}
use Rattle.cap_entries.specs.Log.{published, log}
use Rattle.cap_plain.specs.Queue.{queue}
use Rattle.cap_terminal_answers.specs.Takes.{queue_head}
use Rattle.cap_terminal_answers.specs.Sends.{Sending}
use Rattle.cap_host_answers.specs.Received.{answer_received, place_named}
use Rattle.cap_schedule.specs.declared.outcome.Outcome.{Outcome}
use Rattle.cap_schedule.specs.declared.outcome.Outcome.TheVariants as O
use Rattle.cap_schedule.specs.declared.schedule.End.{End}
use Rattle.cap_schedule.specs.declared.schedule.End.TheVariants.{Host, Terminal}
use Rattle.cap_schedule.specs.declared.schedule.Prefix.{Prefix}
use Rattle.cap_schedule.specs.declared.schedule.Prefix.TheVariants.{Cut, Fail, CutAfter}
use Rattle.cap_schedule.specs.declared.schedule.Action.{Action}
use Rattle.cap_schedule.specs.declared.schedule.Action.TheVariants.{AtTerminal, AtHost, Reopen}
use Rattle.cap_schedule.specs.declared.schedule.Line.{Line}
use Rattle.cap_schedule.specs.declared.schedule.Order.{Order}
use Rattle.cap_schedule.specs.declared.schedule.Order.TheVariants as T
use Rattle.cap_schedule.specs.declared.schedule.HostOrder.{HostOrder}
use Rattle.cap_schedule.specs.declared.schedule.HostOrder.TheVariants as W
use Rattle.cap_schedule.specs.declared.schedule.Schedule.{Schedule}
use Rattle.cap_schedule.specs.Outcomes.{outcome_lines}
use Rattle.cap_answering.specs.Steps.{Acts, Interrupted}
use Rattle.cap_world.specs.World.{TerminalState, HostState, At_host, Answers, Answers_foreign, delivered, started}
use Rattle.cap_ledger.specs.Adding.{calls_for}
use Rattle.cap_plays.specs.Turns.{Scene, counted_at, nth, Work, worked, Turn, behind, next_sale, next_period, begins, offline_turn, sends, sends_head, hears_it, hears, turn_of, HostWork, HostTurn, replies_with, answers_it, answers_terminal, host_turn_of}
use Rattle.cap_plays.specs.Plays.{Doubt, Made, in_doubt, host_interrupted, interrupted, reopened, left_off, with_host, with_terminal, places_from, noted, arrived, made, all_made, host_made, opens, host_opens, Plan, terminal_is_on, is_on, terminal_plan, fails_first, moment_of, plan_of_turn, plan_of_host_turn, plan_of_opening, plan, acting, Fate, fate_behind, fate_whole, fate_in, fate_after, terminal_off, off_at, fate_cut_after, fate_of, passed, is_possible, fate, Doubts, doubt_at, with_doubt, Played, play_behind, opening_plan, closing_fate, silently_behind, terminals_from, ends_of, Does, AreDates, reopen_least, play_least, least_play, first_scene, first_doubts}
use Rattle.cap_plays.specs.Report.{end_text, ends_text, report}
use Rattle.cap_plays.specs.Laws.{IsWhole, OneTextWithoutFaults}
use Rattle.cap_plays.proofs.Singles.{one_play}

-- a function behind a choice
if_same : {A B : Type 0} (f : A → B) (b : Bool) (x y : A) (p q : B) → f x ≡ p → f y ≡ q → f (if b then x else y) ≡ (if b then p else q)
if_same f true x y p q one other = one
if_same f false x y p q one other = other

both : {A B C : Type 0} (f : A → B → C) (a x : A) (b y : B) → a ≡ x → b ≡ y → f a b ≡ f x y
both f a x b y p q = ap (λ z. f z b) p ∙ ap (f x) q

map_set : {A B : Type 0} (f : A → B) (list : List A) (place : ℕ) (x : A) → map f (slice_set list place x) ≡ slice_set (map f list) place (f x)
map_set f [] place x = refl
map_set f (a ∷ list) zero x = refl
map_set f (a ∷ list) (suc place) x = ap (λ l. f a ∷ l) (map_set f list place x)

nth_map : {A B : Type 0} (f : A → B) (list : List A) (k : ℕ) → nth (map f list) k ≡ option_map f (nth list k)
nth_map f list k = sym (if_same (option_map f) (k == 0) None (slice_get list (k - 1)) None (slice_get (map f list) (k - 1)) refl (sym (slice_get-map f list (k - 1))))

module _ (d : DateParts) where
  -- the same with this date
  abbrev redated : Message → Message
  redated m = record {
    header = record { exchange = m.header.exchange; repeat = m.header.repeat; created = d; from = m.header.from; to = m.header.to };
    body = m.body;
  }

  abbrev redated_all : List Message → List Message
  redated_all messages = map redated messages

  abbrev redated_terminal : TerminalState → TerminalState
  redated_terminal s = record { settled = s.settled; tried = s.tried; on = s.on; sent = redated_all s.sent; answers = redated_all s.answers }

  abbrev redated_scene : Scene → Scene
  redated_scene w = record { host = w.host; terminals = map redated_terminal w.terminals; counted = w.counted }

  abbrev redated_work : Work → Work
  redated_work work = record { action = work.action; added = work.added; sent = redated_all work.sent }

  abbrev redated_turn : Turn → Turn
  redated_turn turn = record { works = map redated_work turn.works; outcome = turn.outcome }

  abbrev redated_made : Made → Made
  redated_made m = record { step = m.step; whole = redated_scene m.whole; calls = m.calls; broken = m.broken; torn = redated_scene m.torn; doubt = m.doubt; all = m.all }

  abbrev redated_plan : Plan → Plan
  redated_plan plan = record { steps = map redated_made plan.steps; outcome = plan.outcome }

  abbrev redated_fate : Fate → Fate
  redated_fate f = record { happenings = f.happenings; scene = redated_scene f.scene; outcome = f.outcome; doubt = f.doubt }

  abbrev redated_played : Played → Played
  redated_played played = record { happenings = played.happenings; outcomes = played.outcomes; last = redated_scene played.last }

  -- what a terminal does
  offline_redated : (s : TerminalState) (n : ℕ) → redated_turn (offline_turn s n) ≡ offline_turn s n
  offline_redated s n =
      if_same redated_turn (is_pending s.settled n) _ _ _ _ (if_same redated_turn (nat_le (amount_of s.settled n) (floor s.settled)) _ _ _ _ refl refl) refl

  sends_redated : (s : TerminalState) (what : Sending) (moment : ℕ) (created : DateParts) (number : ℕ) (body : Body) → redated_turn (sends s what moment created number body) ≡ sends (redated_terminal s) what moment d number body
  sends_redated s what moment created number body =
      ap (λ (n : ℕ). let t : Turn = record { works = (sends s what moment d number body).works; outcome = O.Sent (n + 1) } in t) (sym (length-map s.sent redated))

  head_redated : (s : TerminalState) (moment : ℕ) (created : DateParts) (item : Option Item) → redated_turn (sends_head s moment created item) ≡ sends_head (redated_terminal s) moment d item
  head_redated s moment created None = refl
  head_redated s moment created (Some item) = sends_redated s _ moment created _ _

  hears_it_redated : (walks_out : Bool) (s : TerminalState) (j place : ℕ) (message : Option Message) → redated_turn (hears_it walks_out s j place message) ≡ hears_it walks_out (redated_terminal s) j place (option_map redated message)
  hears_it_redated walks_out s j place None = refl
  hears_it_redated walks_out s j place (Some message) = refl

  hears_redated : (walks_out : Bool) (s : TerminalState) (j : ℕ) (place : Option ℕ) → redated_turn (hears walks_out s j place) ≡ hears walks_out (redated_terminal s) j place
  hears_redated walks_out s j None = refl
  hears_redated walks_out s j (Some place) =
      hears_it_redated walks_out s j place (slice_get s.answers place) ∙ ap (hears_it walks_out (redated_terminal s) j place) (sym (slice_get-map redated s.answers place))

  turn_redated : (reads : List ℕ → Received) (s : TerminalState) (counted : List ℕ) (moment : ℕ) (created : DateParts) (order : Order) → redated_turn (turn_of reads s counted moment created order) ≡ turn_of reads (redated_terminal s) counted moment d order
  turn_redated reads s counted moment created (T.Begin amount account) = if_same redated_turn (nat_lt (count_by is_any_begin s.settled) (max_of s.settled)) _ _ _ _ refl refl
  turn_redated reads s counted moment created (T.Offline n) = offline_redated s n
  turn_redated reads s counted moment created (T.Sale amount account) =
      if_same redated_turn (nat_lt (count_by is_any_begin s.settled) (max_of s.settled)) _ _ _ _
      (ap (behind (begins s.settled amount account)) (offline_redated (worked s (begins s.settled amount account)) (next_sale s.settled))) refl
  turn_redated reads s counted moment created (T.Void n) = if_same redated_turn (is_pending s.settled n) _ _ _ _ refl refl
  turn_redated reads s counted moment created (T.Cancel n) = if_same redated_turn (allowed s.settled (Cancelled n)) _ _ _ _ refl refl
  turn_redated reads s counted moment created T.Close = if_same redated_turn (allowed s.settled (Closed (next_period s.settled))) _ _ _ _ refl refl
  turn_redated reads s counted moment created T.Push = head_redated s moment created (queue_head s.settled)
  turn_redated reads s counted moment created (T.Batch limit) = if_same redated_turn (nat_lt 0 (length (queue s.settled))) _ _ _ _ (sends_redated s _ moment created _ _) refl
  turn_redated reads s counted moment created (T.Ask n) = if_same redated_turn (is_pending s.settled n) _ _ _ _ (sends_redated s _ moment created _ _) refl
  turn_redated reads s counted moment created (T.AskCancel n) = if_same redated_turn (allowed s.settled (Cancelled n)) _ _ _ _ (sends_redated s _ moment created _ _) refl
  turn_redated reads s counted moment created T.Diagnose = sends_redated s _ moment created _ _
  turn_redated reads s counted moment created (T.Status wanted) = sends_redated s _ moment created _ _
  turn_redated reads s counted moment created (T.Down j) = hears_redated false s j (nth counted j)
  turn_redated reads s counted moment created (T.Walkout j) = hears_redated true s j (nth counted j)
  turn_redated reads s counted moment created (T.Hear bytes) = refl

  -- its steps
  with_redated : (w : Scene) (place : ℕ) (s : TerminalState) → redated_scene (with_terminal w place s) ≡ with_terminal (redated_scene w) place (redated_terminal s)
  with_redated w place s = ap (λ l. let v : Scene = record { host = w.host; terminals = l; counted = w.counted } in v) (map_set redated_terminal w.terminals place s)

  worked_redated : (s : TerminalState) (work : Work) → redated_terminal (worked s work) ≡ worked (redated_terminal s) (redated_work work)
  worked_redated s work =
      ap (λ l. let t : TerminalState = record { settled = s.settled ++ work.added; tried = []; on = true; sent = l; answers = redated_all s.answers } in t) (map-append redated s.sent work.sent)

  abbrev made_with : Made → Scene → Scene → Made
  made_with m whole torn = record { step = m.step; whole = whole; calls = m.calls; broken = m.broken; torn = torn; doubt = m.doubt; all = m.all }

  whole_redated : (w : Scene) (place : ℕ) (s : TerminalState) (work : Work) → redated_scene (with_terminal w place (worked s work)) ≡ with_terminal (redated_scene w) place (worked (redated_terminal s) (redated_work work))
  whole_redated w place s work = with_redated w place (worked s work) ∙ ap (with_terminal (redated_scene w) place) (worked_redated s work)

  all_made_redated : (w : Scene) (place : ℕ) (s : TerminalState) (works : List Work) → map redated_made (all_made w place s works) ≡ all_made (redated_scene w) place (redated_terminal s) (map redated_work works)
  all_made_redated w place s [] = refl
  all_made_redated w place s (work ∷ works) =
      let next = with_terminal w place (worked s work) in
      both (λ (m : Made) l. m ∷ l) _ _ _ _
      (both (made_with (made w place s work)) _ _ _ _ (whole_redated w place s work) (with_redated w place (interrupted s work)))
      (all_made_redated next place (worked s work) works
      ∙ both (λ (v : Scene) (t : TerminalState). all_made v place t (map redated_work works)) _ _ _ _ (whole_redated w place s work) (worked_redated s work))

  plan_of_turn_redated : (w : Scene) (place : ℕ) (s : TerminalState) (turn : Turn) → redated_plan (plan_of_turn w place s turn) ≡ plan_of_turn (redated_scene w) place (redated_terminal s) (redated_turn turn)
  plan_of_turn_redated w place s turn = ap (λ l. let p : Plan = record { steps = l; outcome = turn.outcome } in p) (all_made_redated w place s turn.works)

  terminal_plan_redated : (found : Option TerminalState) (f g : TerminalState → Plan) → ((s : TerminalState) → redated_plan (f s) ≡ g (redated_terminal s)) → redated_plan (terminal_plan found f) ≡ terminal_plan (option_map redated_terminal found) g
  terminal_plan_redated None f g is = refl
  terminal_plan_redated (Some s) f g is = is s

  found_redated : (w : Scene) (place : ℕ) (f g : TerminalState → Plan) → ((s : TerminalState) → redated_plan (f s) ≡ g (redated_terminal s)) → redated_plan (terminal_plan (slice_get w.terminals place) f) ≡ terminal_plan (slice_get (map redated_terminal w.terminals) place) g
  found_redated w place f g is = terminal_plan_redated (slice_get w.terminals place) f g is ∙ ap (λ o. terminal_plan o g) (sym (slice_get-map redated_terminal w.terminals place))

  opens_redated : (w : Scene) (old : Doubt) (stays : Bool) (kept place : ℕ) (s : TerminalState) → redated_plan (plan_of_opening (opens w old stays kept place s)) ≡ plan_of_opening (opens (redated_scene w) old stays kept place (redated_terminal s))
  opens_redated w old true kept place s =
      ap plan_of_opening (both (made_with (opens w old true kept place s)) _ _ _ _ (with_redated w place (reopened true kept s)) (with_redated w place (left_off s)))
  opens_redated w old false kept place s =
      ap plan_of_opening (both (made_with (opens w old false kept place s)) _ _ _ _ (with_redated w place (reopened true kept s)) (with_redated w place (reopened false kept s)))

  host_opens_redated : (w : Scene) (old : Doubt) (stays : Bool) (kept : ℕ) → redated_plan (plan_of_opening (host_opens w old stays kept)) ≡ plan_of_opening (host_opens (redated_scene w) old stays kept)
  host_opens_redated w old true kept = refl
  host_opens_redated w old false kept = refl

  -- what the host does
  abbrev redated_host_work : HostWork → HostWork
  redated_host_work work = record { action = work.action; added = work.added; receiver = work.receiver; replies = redated_all work.replies; counts = work.counts }

  abbrev redated_host_turn : HostTurn → HostTurn
  redated_host_turn turn = record { work = option_map redated_host_work turn.work; outcome = turn.outcome }

  replies_redated : (entries : List HostEntry) (created : DateParts) (received : Received) (body : Option Body) → redated_all (replies_with entries created received body) ≡ replies_with entries d received body
  replies_redated entries created received None = refl
  replies_redated entries created received (Some body) = refl

  replies_to_redated : (entries : List HostEntry) (created : DateParts) (message : Message) (body : Option Body) → redated_all (replies_with entries created (Read message) body) ≡ replies_with entries d (Read (redated message)) body
  replies_to_redated entries created message None = refl
  replies_to_redated entries created message (Some body) = refl

  abbrev reply_work : HostWork → List Message → HostWork
  reply_work work replies = record { action = work.action; added = work.added; receiver = work.receiver; replies = replies; counts = work.counts }

  it_redated : (entries : List HostEntry) (moment : ℕ) (created : DateParts) (terminal which : ℕ) (counted : List ℕ) (message : Option Message)
      → redated_host_turn (answers_it entries moment created terminal which counted message) ≡ answers_it entries moment d terminal which counted (option_map redated message)
  it_redated entries moment created terminal which counted None = refl
  it_redated entries moment created terminal which counted (Some message) =
      let work : HostWork = record { action = Answers terminal (which - 1) moment; added = (answer_received entries (Read message)).added; receiver = terminal; replies = []; counts = true } in
      ap (λ (l : List Message). let t : HostTurn = record { work = Some (reply_work work l); outcome = (answers_it entries moment d terminal which counted (Some message)).outcome } in t)
      (replies_to_redated entries created message (answer_received entries (Read message)).reply)

  terminal_redated : (entries : List HostEntry) (moment : ℕ) (created : DateParts) (terminal which : ℕ) (counted : List ℕ) (s : Option TerminalState)
      → redated_host_turn (answers_terminal entries moment created terminal which counted s) ≡ answers_terminal entries moment d terminal which counted (option_map redated_terminal s)
  terminal_redated entries moment created terminal which counted None = refl
  terminal_redated entries moment created terminal which counted (Some s) =
      it_redated entries moment created terminal which counted (nth s.sent which) ∙ ap (answers_it entries moment d terminal which counted) (sym (nth_map redated s.sent which))

  host_turn_redated : (reads : List ℕ → Received) (w : Scene) (moment : ℕ) (created : DateParts) (order : HostOrder) → redated_host_turn (host_turn_of reads w moment created order) ≡ host_turn_of reads (redated_scene w) moment d order
  host_turn_redated reads w moment created (W.Up terminal which) =
      terminal_redated w.host.settled moment created terminal which (counted_at w.counted terminal) (slice_get w.terminals terminal)
      ∙ ap (answers_terminal w.host.settled moment d terminal which (counted_at w.counted terminal)) (sym (slice_get-map redated_terminal w.terminals terminal))
  host_turn_redated reads w moment created (W.Publish rows) = if_same redated_host_turn (nat_lt (length (published w.host.settled)) 10000) _ _ _ _ refl refl
  host_turn_redated reads w moment created (W.Listen bytes) =
      let turn = host_turn_of reads w moment d (W.Listen bytes) in
      let work : HostWork = record { action = Answers_foreign (reads bytes) moment; added = (answer_received w.host.settled (reads bytes)).added; receiver = place_named w.host.settled (reads bytes); replies = []; counts = false } in
      ap (λ (l : List Message). let t : HostTurn = record { work = Some (reply_work work l); outcome = turn.outcome } in t)
      (replies_redated w.host.settled created (reads bytes) (answer_received w.host.settled (reads bytes)).reply)

  -- what arrives
  delivered_redated : (terminals : List TerminalState) (place : ℕ) (messages : List Message) → map redated_terminal (delivered terminals place messages) ≡ delivered (map redated_terminal terminals) place (redated_all messages)
  delivered_redated [] place messages = refl
  delivered_redated (s ∷ terminals) zero messages =
      ap (λ l. let t : TerminalState = record { settled = s.settled; tried = s.tried; on = s.on; sent = redated_all s.sent; answers = l } in t ∷ map redated_terminal terminals) (map-append redated s.answers messages)
  delivered_redated (s ∷ terminals) (suc place) messages = ap (λ l. redated_terminal s ∷ l) (delivered_redated terminals place messages)

  places_redated : (place : ℕ) (messages : List Message) → places_from place (redated_all messages) ≡ places_from place messages
  places_redated place [] = refl
  places_redated place (message ∷ messages) = ap (λ l. place ∷ l) (places_redated (suc place) messages)

  noted_redated : (counted : List (List ℕ)) (terminals : List TerminalState) (place : ℕ) (messages : List Message) → noted counted terminals place messages ≡ noted counted (map redated_terminal terminals) place (redated_all messages)
  noted_redated [] terminals place messages = refl
  noted_redated (places ∷ counted) [] place messages = refl
  noted_redated (places ∷ counted) (s ∷ terminals) zero messages =
      ap (λ l. (places ++ l) ∷ counted) (ap (λ n. places_from n messages) (sym (length-map s.answers redated)) ∙ sym (places_redated (length (redated_all s.answers)) messages))
  noted_redated (places ∷ counted) (s ∷ terminals) (suc place) messages = ap (λ l. places ∷ l) (noted_redated counted terminals place messages)

  arrived_redated : (w : Scene) (host : HostState) (place : ℕ) (messages : List Message) (counts : Bool) → redated_scene (arrived w host place messages counts) ≡ arrived (redated_scene w) host place (redated_all messages) counts
  arrived_redated w host place messages true =
      both (λ l c. let v : Scene = record { host = host; terminals = l; counted = c } in v) _ _ _ _ (delivered_redated w.terminals place messages) (noted_redated w.counted w.terminals place messages)
  arrived_redated w host place messages false =
      ap (λ l. let v : Scene = record { host = host; terminals = l; counted = w.counted } in v) (delivered_redated w.terminals place messages)

  abbrev host_made_with : Scene → HostWork → Scene → Made
  host_made_with w work whole = record {
    step = At_host (Acts work.action);
    whole = whole;
    calls = calls_for work.added;
    broken = At_host (Interrupted work.action);
    torn = with_host (redated_scene w) (host_interrupted w.host work);
    doubt = in_doubt work.added;
    all = length work.added;
  }

  host_made_redated : (w : Scene) (work : Option HostWork) → map redated_made (host_made w work) ≡ host_made (redated_scene w) (option_map redated_host_work work)
  host_made_redated w None = refl
  host_made_redated w (Some work) =
      ap (λ (v : Scene). host_made_with w work v ∷ []) (arrived_redated w (record { settled = w.host.settled ++ work.added; tried = []; on = true }) work.receiver work.replies work.counts)

  -- a line
  plan_redated : (reads : List ℕ → Received) (w : Scene) (old : Doubt) (kept : ℕ) (prefix : Option Prefix) (number : ℕ) (created : DateParts) (action : Action)
      → redated_plan (plan reads w old kept prefix number created action) ≡ plan reads (redated_scene w) old kept prefix number d action
  plan_redated reads w old kept prefix number created (AtTerminal place order) =
      found_redated w place _ _ (λ s.
      plan_of_turn_redated w place s (turn_of reads s (counted_at w.counted place) (moment_of number) created order)
      ∙ ap (plan_of_turn (redated_scene w) place (redated_terminal s)) (turn_redated reads s (counted_at w.counted place) (moment_of number) created order))
  plan_redated reads w old kept prefix number created (AtHost order) =
      let turn = host_turn_of reads w (moment_of number) created order in
      ap (λ l. let p : Plan = record { steps = l; outcome = turn.outcome } in p) (host_made_redated w turn.work)
      ∙ ap (plan_of_host_turn (redated_scene w)) (host_turn_redated reads w (moment_of number) created order)
  plan_redated reads w old kept prefix number created (Reopen (Terminal place)) = found_redated w place _ _ (opens_redated w old (fails_first prefix) kept place)
  plan_redated reads w old kept prefix number created (Reopen Host) = host_opens_redated w old (fails_first prefix) kept

  whole_fate_redated : (w : Scene) (made : List Made) (outcome : Outcome) → redated_fate (fate_whole w made outcome) ≡ fate_whole (redated_scene w) (map redated_made made) outcome
  whole_fate_redated w [] outcome = refl
  whole_fate_redated w (m ∷ made) outcome = ap (fate_behind m.step) (whole_fate_redated m.whole made outcome)

  in_redated : (w : Scene) (made : List Made) (outcome ended : Outcome) (c : ℕ) → redated_fate (fate_in w made outcome ended c) ≡ fate_in (redated_scene w) (map redated_made made) outcome ended c
  in_redated w [] outcome ended c = refl
  in_redated w (m ∷ made) outcome ended c = if_same redated_fate (nat_le c m.calls) _ _ _ _ refl (ap (fate_behind m.step) (in_redated m.whole made outcome ended (c - m.calls)))

  after_redated : (m : Made) (made : List Made) → redated_fate (fate_after m made) ≡ fate_after (redated_made m) (map redated_made made)
  after_redated m [] = refl
  after_redated m (next ∷ made) = ap (fate_behind m.step) (after_redated next made)

  terminal_off_redated : (w : Scene) (place : ℕ) (s : Option TerminalState) → redated_fate (terminal_off w place s) ≡ terminal_off (redated_scene w) place (option_map redated_terminal s)
  terminal_off_redated w place None = refl
  terminal_off_redated w place (Some s) =
      ap (λ (v : Scene). let f : Fate = record { happenings = (terminal_off w place (Some s)).happenings; scene = v; outcome = O.WasCut; doubt = (terminal_off w place (Some s)).doubt } in f) (with_redated w place (reopened false 0 s))

  off_redated : (w : Scene) (end : End) → redated_fate (off_at w end) ≡ off_at (redated_scene w) end
  off_redated w Host = refl
  off_redated w (Terminal place) = terminal_off_redated w place (slice_get w.terminals place) ∙ ap (terminal_off (redated_scene w) place) (sym (slice_get-map redated_terminal w.terminals place))

  cut_after_redated : (w : Scene) (end : End) (made : List Made) → redated_fate (fate_cut_after w end made) ≡ fate_cut_after (redated_scene w) end (map redated_made made)
  cut_after_redated w end [] = off_redated w end
  cut_after_redated w end (m ∷ made) = after_redated m made

  of_redated : (prefix : Option Prefix) (w : Scene) (end : End) (plan : Plan) → redated_fate (fate_of prefix w end plan) ≡ fate_of prefix (redated_scene w) end (redated_plan plan)
  of_redated None w end plan = whole_fate_redated w plan.steps plan.outcome
  of_redated (Some (Cut call fill)) w end plan = in_redated w plan.steps plan.outcome _ call
  of_redated (Some (Fail call fill)) w end plan = in_redated w plan.steps plan.outcome _ call
  of_redated (Some CutAfter) w end plan = cut_after_redated w end plan.steps

  on_redated : (w : Scene) (end : End) → is_on (redated_scene w) end ≡ is_on w end
  on_redated w Host = refl
  on_redated w (Terminal place) = ap terminal_is_on (slice_get-map redated_terminal w.terminals place) ∙ found_on (slice_get w.terminals place)
    where
      found_on : (s : Option TerminalState) → terminal_is_on (option_map redated_terminal s) ≡ terminal_is_on s
      found_on None = refl
      found_on (Some s) = refl

  possible_redated : (w : Scene) (action : Action) → is_possible (redated_scene w) action ≡ is_possible w action
  possible_redated w (AtTerminal place order) = on_redated w (Terminal place)
  possible_redated w (AtHost order) = refl
  possible_redated w (Reopen end) = refl

  fate_redated : (reads : List ℕ → Received) (w : Scene) (old : Doubt) (kept : ℕ) (created : DateParts) (line : Line) → redated_fate (fate reads w old kept created line) ≡ fate reads (redated_scene w) old kept d line
  fate_redated reads w old kept created line =
      let there = fate_of line.prefix (redated_scene w) (acting line.action) (plan reads (redated_scene w) old kept line.prefix line.number d line.action) in
      if_same redated_fate (is_possible w line.action) _ _ there (passed (redated_scene w) old)
      (of_redated line.prefix w (acting line.action) (plan reads w old kept line.prefix line.number created line.action)
      ∙ ap (fate_of line.prefix (redated_scene w) (acting line.action)) (plan_redated reads w old kept line.prefix line.number created line.action))
      refl
      ∙ ap (λ (b : Bool). if b then there else passed (redated_scene w) old) (sym (possible_redated w line.action))

  -- the openings at the end
  opening_redated : (w : Scene) (old : Doubt) (kept : ℕ) (end : End) → redated_plan (opening_plan w old kept end) ≡ opening_plan (redated_scene w) old kept end
  opening_redated w old kept Host = refl
  opening_redated w old kept (Terminal place) = found_redated w place _ _ (opens_redated w old false kept place)

  closing_redated : (w : Scene) (old : Doubt) (kept : ℕ) (end : End) → redated_fate (closing_fate w old kept end) ≡ closing_fate (redated_scene w) old kept end
  closing_redated w old kept end =
      let there = fate_whole (redated_scene w) (opening_plan (redated_scene w) old kept end).steps O.Restarted in
      if_same redated_fate (is_on w end) _ _ (passed (redated_scene w) old) there refl
      (whole_fate_redated w (opening_plan w old kept end).steps O.Restarted ∙ ap (λ (p : Plan). fate_whole (redated_scene w) p.steps O.Restarted) (opening_redated w old kept end))
      ∙ ap (λ (b : Bool). if b then passed (redated_scene w) old else there) (sym (on_redated w end))

  reopen_redated : (ends : List End) (w : Scene) (doubts : Doubts) → redated_played (reopen_least ends w doubts) ≡ reopen_least ends (redated_scene w) doubts
  reopen_redated [] w doubts = refl
  reopen_redated (end ∷ ends) w doubts =
      let old = doubt_at doubts end in
      let f = closing_fate w old old.least end in
      ap (silently_behind (redated_fate f)) (reopen_redated ends f.scene doubts)
      ∙ ap (λ (g : Fate). silently_behind g (reopen_least ends g.scene doubts)) (closing_redated w old old.least end)

  ends_redated : (place : ℕ) (terminals : List TerminalState) → terminals_from place (map redated_terminal terminals) ≡ terminals_from place terminals
  ends_redated place [] = refl
  ends_redated place (s ∷ terminals) = ap (λ l. Terminal place ∷ l) (ends_redated (suc place) terminals)

  abbrev this_date : DateParts → DateParts
  this_date created = d

  play_redated : (reads : List ℕ → Received) (lines : List Line) (dates : List DateParts) (w : Scene) (doubts : Doubts)
      → redated_played (play_least reads lines dates w doubts) ≡ play_least reads lines (map this_date dates) (redated_scene w) doubts
  play_redated reads [] dates w doubts = reopen_redated (ends_of w) w doubts ∙ ap (λ l. reopen_least (Host ∷ l) (redated_scene w) doubts) (sym (ends_redated 0 w.terminals))
  play_redated reads (line ∷ lines) [] w doubts = refl
  play_redated reads (line ∷ lines) (created ∷ dates) w doubts =
      let end = acting line.action in
      let old = doubt_at doubts end in
      let f = fate reads w old old.least created line in
      ap (play_behind (redated_fate f)) (play_redated reads lines dates f.scene (with_doubt doubts end f.doubt))
      ∙ ap (λ (g : Fate). play_behind g (play_least reads lines (map this_date dates) g.scene (with_doubt doubts end g.doubt))) (fate_redated reads w old old.least created line)

  first_redated : (terminals : List TerminalSettings) → map redated_terminal (map started terminals) ≡ map started terminals
  first_redated [] = refl
  first_redated (settings ∷ terminals) = ap (λ l. started settings ∷ l) (first_redated terminals)

  dates_redated : (lines : List Line) (dates : List DateParts) → AreDates lines dates → map this_date dates ≡ map (λ (line : Line). d) lines
  dates_redated [] dates is = ap (map this_date) is
  dates_redated (line ∷ lines) dates (created, more, at, are, is) = ap (map this_date) is ∙ ap (λ l. d ∷ l) (dates_redated lines more are)

  least_redated : (reads : List ℕ → Received) (s : Schedule) (dates : List DateParts) → AreDates s.lines dates
      → redated_played (least_play reads dates s) ≡ least_play reads (map (λ (line : Line). d) s.lines) s
  least_redated reads s dates are =
      play_redated reads s.lines dates (first_scene s) (first_doubts s)
      ∙ (ap (λ l. play_least reads s.lines l (redated_scene (first_scene s)) (first_doubts s)) (dates_redated s.lines dates are)
      ∙ ap (λ (l : List TerminalState). let w : Scene = record { host = (first_scene s).host; terminals = l; counted = (first_scene s).counted } in play_least reads s.lines (map (λ (line : Line). d) s.lines) w (first_doubts s)) (first_redated s.terminals))

  -- a report says nothing of dates
  ends_text_redated : (w : Scene) (place : ℕ) (all : List TerminalSettings) (terminals : List TerminalState) → ends_text (redated_scene w) place all (map redated_terminal terminals) ≡ ends_text w place all terminals
  ends_text_redated w place [] terminals = refl
  ends_text_redated w place (settings ∷ all) [] = refl
  ends_text_redated w place (settings ∷ all) (s ∷ terminals) = ap (λ l. end_text settings.terminal s.settled (log w.host.settled place) ++ l) (ends_text_redated w (suc place) all terminals)

  report_redated : (s : Schedule) (played : Played) → report s (redated_played played) ≡ report s played
  report_redated s played = ap (λ l. outcome_lines s.lines played.outcomes ++ l) (ends_text_redated played.last 0 s.terminals played.last.terminals)

-- each play is the same, but for the dates
one_but_for_dates : (reads : List ℕ → Received) (s : Schedule) (d : DateParts) (played : Played) → AllByRecursion (λ (line : Line). IsWhole line.prefix) s.lines → Does reads s played
    → redated_played d played ≡ least_play reads (map (λ (line : Line). d) s.lines) s
one_but_for_dates reads s d played whole does =
    let (dates, are, is) = (one_play reads s whole).1 played does in
    ap (redated_played d) is ∙ least_redated d reads s dates are

pub one_text : OneTextWithoutFaults
one_text reads s played other whole does does_too =
    let d = s.host.start in
    let same : redated_played d played ≡ redated_played d other = one_but_for_dates reads s d played whole does ∙ sym (one_but_for_dates reads s d other whole does_too) in
    record {
      happenings = ap (λ (p : Played). p.happenings) same;
      outcomes = ap (λ (p : Played). p.outcomes) same;
      text = sym (report_redated d s played) ∙ (ap (report s) same ∙ report_redated d s other);
    }
