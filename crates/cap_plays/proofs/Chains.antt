-- Each step of a line is a step of the model, and so is what becomes of it where it is interrupted: what a schedule names is a run.
use Rattle.std.proofs.Common.{◌≡◌, ℕ, zero, suc, ◌-◌, Bool, true, false, List, [], ◌∷◌, ◌++◌, length, Option, Some, None, Result, Ok, Err, refl, sym, ◌∙◌, subst, lit≤}
use Rattle.std.specs.Prelude.{⊤, slice_get, slice_set, nat_le, nat_lt, ◌==◌, count_by}
use Rattle.std.specs.List.{AllByRecursion}
use Rattle.std.proofs.lemmas.Bool.{cond_both, leb-true, ltb-true}
use Rattle.std.proofs.lemmas.Option.{none-some}
use Rattle.cap_base.specs.declared.item.Item.{Item}
use Rattle.cap_base.specs.declared.codes.Response.{Response}
use Rattle.cap_base.specs.declared.codes.Response.TheVariants.{Appr, Decl, Part, Tech}
use Rattle.cap_leaf.specs.Date.{DateParts}
use Rattle.cap_msgs.specs.declared.message.Body.{Body}
use Rattle.cap_msgs.specs.declared.message.Message.{Message}
use Rattle.cap_msgs.specs.Received.{Received, Read}
use Rattle.cap_msgs.specs.Moment.{IsMoment}
use Rattle.cap_entries.specs.declared.terminal.TermEntry.{TermEntry}
use Rattle.cap_entries.specs.declared.terminal.TermEntry.TheVariants.{Cancelled, Closed}
use Rattle.cap_entries.specs.declared.host.HostEntry.{HostEntry}
use Rattle.cap_entries.specs.Entry.{is_any_begin, is_pending, amount_of, max_of}
use Rattle.cap_entries.specs.Floor.{floor}
use Rattle.cap_entries.specs.Allowed.{allowed}
use Rattle.cap_entries.specs.Log.{published}
use Rattle.cap_plain.specs.Queue.{queue}
use Rattle.cap_sale.specs.declared.response.AuthResponse.{AuthResponse}
use Rattle.cap_terminal_answers.specs.declared.handled.Handled.{Handled}
use Rattle.cap_terminal_answers.specs.declared.handled.Handled.TheVariants as H
use Rattle.cap_terminal_answers.specs.declared.handled.TermFault.{TermFault}
use Rattle.cap_terminal_answers.specs.Takes.{takes, queue_head, IsNotOurs}
use Rattle.cap_terminal_answers.specs.Does.{Decides}
use Rattle.cap_host_answers.specs.Received.{answer_received, Replies, IsForeign}
use Rattle.cap_schedule.specs.declared.outcome.Outcome.{Outcome}
use Rattle.cap_schedule.specs.declared.schedule.End.{End}
use Rattle.cap_schedule.specs.declared.schedule.End.TheVariants.{Host, Terminal}
use Rattle.cap_schedule.specs.declared.schedule.Prefix.{Prefix}
use Rattle.cap_schedule.specs.declared.schedule.Prefix.TheVariants.{Cut, Fail, CutAfter}
use Rattle.cap_schedule.specs.declared.schedule.Action.{Action}
use Rattle.cap_schedule.specs.declared.schedule.Action.TheVariants.{AtTerminal, AtHost, Reopen}
use Rattle.cap_schedule.specs.declared.schedule.Line.{Line}
use Rattle.cap_schedule.specs.declared.schedule.Order.{Order}
use Rattle.cap_schedule.specs.declared.schedule.Order.TheVariants as T
use Rattle.cap_schedule.specs.declared.schedule.HostOrder.{HostOrder}
use Rattle.cap_schedule.specs.declared.schedule.HostOrder.TheVariants as W
use Rattle.cap_schedule.specs.declared.schedule.Schedule.{Schedule}
use Rattle.cap_world.specs.World.{TerminalState, World, TerminalDoes, HostDoes, Step, Run, Happening}
use Rattle.cap_plays.specs.Turns.{Scene, world_of, counted_at, nth, Work, worked, Turn, next_sale, next_period, begins, offline_turn, sends_head, if_cancellable, Decided, on_response, decided, decides_on, hears_it, hears, turn_of, HostWork, HostTurn, replies_with, answers_it, answers_terminal, host_turn_of}
use Rattle.cap_plays.specs.Plays.{Made, made, all_made, host_made, opens, host_opens, Plan, fails_first, terminal_plan, plan, opening_plan, Fate, fate, fate_of, fate_whole, fate_in, fate_after, fate_cut_after, off_at, terminal_off, acting, is_on, is_possible, terminal_is_on, with_terminal, closing_fate, Doubt, Doubts, doubt_at, with_doubt, moment_of, Played, Reopens, Plays, ends_of, first_scene, first_doubts}
use Rattle.cap_schedule.specs.Nobodys.{IsNoiseOfOrder, IsNoiseOfHostOrder, IsNoise}
use Rattle.cap_schedule.specs.Ranges.{OrderInRange, ActionInRange}
use Rattle.cap_plays.specs.Laws.{InRange, wanted_in_range, first_world, IsReached, EveryPlayIsARun}
use Rattle.cap_plays.specs.SetUps.{IsSetUp, reached_set_up, noise_is_not_ours, noise_is_foreign}

-- these steps of a terminal are made one after the other
abbrev Works : TerminalState → List Work → Type 0
Works s [] = ⊤
Works s (work ∷ works) = TerminalDoes s work.action work.added work.sent × Works (worked s work) works

-- these are steps of the model one after the other, and each may be interrupted
abbrev Chained : Scene → List Made → Type 0
Chained w [] = ⊤
Chained w (m ∷ made) = Step (world_of w) m.step (world_of m.whole) × Step (world_of w) m.broken (world_of m.torn) × Chained m.whole made

abbrev RunsTo : Scene → Fate → Type 0
RunsTo w fate = Run (world_of w) fate.happenings (world_of fate.scene)

whole_runs : (w : Scene) (made : List Made) (outcome : Outcome) → Chained w made → RunsTo w (fate_whole w made outcome)
whole_runs w [] outcome c = refl
whole_runs w (m ∷ made) outcome (step, broken, more) = (world_of m.whole, step, whole_runs m.whole made outcome more)

in_runs : (w : Scene) (made : List Made) (outcome ended : Outcome) (c : ℕ) → Chained w made → RunsTo w (fate_in w made outcome ended c)
in_runs w [] outcome ended c chained = refl
in_runs w (m ∷ made) outcome ended c (step, broken, more) =
    cond_both (nat_le c m.calls) _ _ (RunsTo w) (λ _. (world_of m.torn, broken, refl)) (λ _. (world_of m.whole, step, in_runs m.whole made outcome ended (c - m.calls) more))

after_runs : (w : Scene) (m : Made) (made : List Made) → Chained w (m ∷ made) → RunsTo w (fate_after m made)
after_runs w m [] (step, broken, more) = (world_of m.torn, broken, refl)
after_runs w m (next ∷ made) (step, broken, more) = (world_of m.whole, step, after_runs m.whole next made more)

-- what stands at a place that is written
there_set : (terminals : List TerminalState) (place : ℕ) (s new : TerminalState) → slice_get terminals place ≡ Some s → slice_get (slice_set terminals place new) place ≡ Some new
there_set [] place s new there = absurd (none-some s there)
there_set (t ∷ terminals) zero s new there = refl
there_set (t ∷ terminals) (suc place) s new there = there_set terminals place s new there

chained : (w : Scene) (place : ℕ) (s : TerminalState) (works : List Work) → slice_get w.terminals place ≡ Some s → s.on ≡ true → Works s works → Chained w (all_made w place s works)
chained w place s [] there on does = tt
chained w place s (work ∷ works) there on (does, more) = (
  (s, worked s work, there, (work.added, work.sent, on, does, refl), refl),
  (s, _, there, (work.added, work.sent, on, does, refl), refl),
  chained (with_terminal w place (worked s work)) place (worked s work) works (there_set w.terminals place s (worked s work) there) refl more,
)

-- the steps of each order
abbrev WorksOf : TerminalState → Turn → Type 0
WorksOf s turn = Works s turn.works

offline_works : (s : TerminalState) (n : ℕ) → WorksOf s (offline_turn s n)
offline_works s n =
    cond_both (is_pending s.settled n) _ _ (WorksOf s)
    (λ pending. cond_both (nat_le (amount_of s.settled n) (floor s.settled)) _ _ (WorksOf s) (λ le. (((pending, leb-true _ _ le, refl), refl), tt)) (λ _. tt))
    (λ _. tt)

head_works : (s : TerminalState) (moment : ℕ) (created : DateParts) (item : Option Item) → IsMoment moment created → queue_head s.settled ≡ item → WorksOf s (sends_head s moment created item)
head_works s moment created None at is = tt
head_works s moment created (Some item) at is = ((_, (item, is, lit≤ tt, (created, at, refl)), refl, refl), tt)

if_works : (s : TerminalState) (n : ℕ) (turn : Turn) → (allowed s.settled (Cancelled n) ≡ true → WorksOf s turn) → WorksOf s (if_cancellable s.settled n turn)
if_works s n turn does = cond_both (allowed s.settled (Cancelled n)) _ _ (WorksOf s) does (λ _. tt)

nth_there : {A : Type 0} (list : List A) (k : ℕ) (x : A) → nth list k ≡ Some x → slice_get list (k - 1) ≡ Some x
nth_there list k x =
    let P : Option _ → Type 0 = λ o. o ≡ Some x → slice_get list (k - 1) ≡ Some x in
    cond_both (k == 0) None (slice_get list (k - 1)) P (λ _ e. absurd (none-some x e)) (λ _ e. e)

not_appr : (given other : Response) → given ≡ other → (other ≡ Appr → ⊥) → given ≡ Appr → ⊥
not_appr given other e never is = never (sym e ∙ is)

decl_is_other : Decl ≡ Appr → ⊥
decl_is_other e = cc

part_is_other : Part ≡ Appr → ⊥
part_is_other e = cc

tech_is_other : Tech ≡ Appr → ⊥
tech_is_other e = cc

abbrev DecidesBy : List TermEntry → Result Handled TermFault → Decided → Type 0
DecidesBy entries answer decided = Decides entries answer decided.decision decided.added

response_decides : (walks_out : Bool) (entries : List TermEntry) (given : AuthResponse) (response : Response) → given.response ≡ response → is_pending entries given.n ≡ true
    → DecidesBy entries (Ok (H.Authorisation given)) (on_response walks_out given.n response given.code)
response_decides true entries given Appr e pending = (given, refl, e, pending, refl)
response_decides false entries given Appr e pending = (given, refl, e, pending, refl)
response_decides walks_out entries given Decl e pending = (given, refl, not_appr given.response Decl e decl_is_other, pending, refl)
response_decides walks_out entries given Part e pending = (given, refl, not_appr given.response Part e part_is_other, pending, refl)
response_decides walks_out entries given Tech e pending = (given, refl, not_appr given.response Tech e tech_is_other, pending, refl)

decides_right : (walks_out : Bool) (entries : List TermEntry) (answer : Result Handled TermFault) → DecidesBy entries answer (decided walks_out entries answer)
decides_right walks_out entries (Err fault) = refl
decides_right walks_out entries (Ok (H.Authorisation given)) =
    cond_both (is_pending entries given.n) _ _ (DecidesBy entries (Ok (H.Authorisation given))) (response_decides walks_out entries given given.response refl) (λ _. refl)
decides_right walks_out entries (Ok (H.CancelAnswer n response)) = refl
decides_right walks_out entries (Ok (H.Diagnosed last)) = refl
decides_right walks_out entries (Ok (H.Plan actions)) = refl
decides_right walks_out entries (Ok (H.Part version part parts)) = refl
decides_right walks_out entries (Ok (H.Acked m)) = refl
decides_right walks_out entries (Ok (H.Reconciled m totals agree)) = refl

hears_it_works : (walks_out : Bool) (s : TerminalState) (j place : ℕ) (message : Option Message) → slice_get s.answers place ≡ message → WorksOf s (hears_it walks_out s j place message)
hears_it_works walks_out s j place None is = tt
hears_it_works walks_out s j place (Some message) is =
    ((message, (decides_on walks_out s.settled (Read message)).added, is, decides_right walks_out s.settled (takes s.settled (Read message)).answer, refl, refl), tt)

hears_works : (walks_out : Bool) (s : TerminalState) (j : ℕ) (place : Option ℕ) → WorksOf s (hears walks_out s j place)
hears_works walks_out s j None = tt
hears_works walks_out s j (Some place) = hears_it_works walks_out s j place (slice_get s.answers place) refl

-- noise is foreign to a terminal
abbrev NoiseIsNotOurs : (reads : List ℕ → Received) → TerminalState → Order → Type 0
NoiseIsNotOurs reads s (T.Hear bytes) = IsNotOurs s.settled (reads bytes)
NoiseIsNotOurs reads s _ = ⊤

turn_works : (reads : List ℕ → Received) (s : TerminalState) (counted : List ℕ) (moment : ℕ) (created : DateParts) (order : Order) → IsMoment moment created → OrderInRange order → NoiseIsNotOurs reads s order
    → WorksOf s (turn_of reads s counted moment created order)
turn_works reads s counted moment created (T.Begin amount account) at range noise =
    cond_both (nat_lt (count_by is_any_begin s.settled) (max_of s.settled)) _ _ (WorksOf s) (λ lt. (((ltb-true _ _ lt, refl), refl), tt)) (λ _. tt)
turn_works reads s counted moment created (T.Offline n) at range noise = offline_works s n
turn_works reads s counted moment created (T.Sale amount account) at range noise =
    cond_both (nat_lt (count_by is_any_begin s.settled) (max_of s.settled)) _ _ (WorksOf s)
    (λ lt. (((ltb-true _ _ lt, refl), refl), offline_works (worked s (begins s.settled amount account)) (next_sale s.settled)))
    (λ _. tt)
turn_works reads s counted moment created (T.Void n) at range noise = cond_both (is_pending s.settled n) _ _ (WorksOf s) (λ pending. (((pending, refl), refl), tt)) (λ _. tt)
turn_works reads s counted moment created (T.Cancel n) at range noise = if_works s n _ (λ may. (((may, refl), refl), tt))
turn_works reads s counted moment created T.Close at range noise =
    cond_both (allowed s.settled (Closed (next_period s.settled))) _ _ (WorksOf s) (λ may. (((may, refl), refl), tt)) (λ _. tt)
turn_works reads s counted moment created T.Push at range noise = head_works s moment created _ at refl
turn_works reads s counted moment created (T.Batch limit) at range noise =
    cond_both (nat_lt 0 (length (queue s.settled))) _ _ (WorksOf s) (λ some. ((_, (range.0, range.1, lit≤ tt, ltb-true _ _ some, (created, at, refl)), refl, refl), tt)) (λ _. tt)
turn_works reads s counted moment created (T.Ask n) at range noise =
    cond_both (is_pending s.settled n) _ _ (WorksOf s) (λ pending. ((_, (pending, (created, at, refl)), refl, refl), tt)) (λ _. tt)
turn_works reads s counted moment created (T.AskCancel n) at range noise = if_works s n _ (λ may. ((_, (may, (created, at, refl)), refl, refl), tt))
turn_works reads s counted moment created T.Diagnose at range noise = ((_, (created, at, refl), refl, refl), tt)
turn_works reads s counted moment created (T.Status wanted) at range noise = ((_, (wanted_in_range wanted range, (created, at, refl)), refl, refl), tt)
turn_works reads s counted moment created (T.Down j) at range noise = hears_works false s j (nth counted j)
turn_works reads s counted moment created (T.Walkout j) at range noise = hears_works true s j (nth counted j)
turn_works reads s counted moment created (T.Hear bytes) at range noise = ((noise, refl, refl), tt)

-- the step of the host
abbrev HostWorks : World → Option HostWork → Type 0
HostWorks w None = ⊤
HostWorks w (Some work) = HostDoes w work.action work.added work.receiver work.replies

abbrev HostWorksOf : World → HostTurn → Type 0
HostWorksOf w turn = HostWorks w turn.work

replies_work : (entries : List HostEntry) (moment : ℕ) (created : DateParts) (received : Received) (body : Option Body) → IsMoment moment created
    → Replies entries moment received body (replies_with entries created received body)
replies_work entries moment created received None at = refl
replies_work entries moment created received (Some body) at = (created, at, refl)

it_works : (w : World) (moment : ℕ) (created : DateParts) (terminal which : ℕ) (counted : List ℕ) (s : TerminalState) (message : Option Message) → IsMoment moment created
    → slice_get w.terminals terminal ≡ Some s → nth s.sent which ≡ message → HostWorksOf w (answers_it w.host.settled moment created terminal which counted message)
it_works w moment created terminal which counted s None at there is = tt
it_works w moment created terminal which counted s (Some message) at there is =
    (s, message, there, nth_there s.sent which message is, refl, refl, replies_work w.host.settled moment created (Read message) (answer_received w.host.settled (Read message)).reply at)

terminal_works : (w : World) (moment : ℕ) (created : DateParts) (terminal which : ℕ) (counted : List ℕ) (s : Option TerminalState) → IsMoment moment created
    → slice_get w.terminals terminal ≡ s → HostWorksOf w (answers_terminal w.host.settled moment created terminal which counted s)
terminal_works w moment created terminal which counted None at there = tt
terminal_works w moment created terminal which counted (Some s) at there = it_works w moment created terminal which counted s (nth s.sent which) at there refl

abbrev NoiseIsForeign : (reads : List ℕ → Received) → World → HostOrder → Type 0
NoiseIsForeign reads w (W.Listen bytes) = IsForeign w.host.settled (reads bytes)
NoiseIsForeign reads w _ = ⊤

host_turn_works : (reads : List ℕ → Received) (w : Scene) (moment : ℕ) (created : DateParts) (order : HostOrder) → IsMoment moment created → NoiseIsForeign reads (world_of w) order
    → HostWorksOf (world_of w) (host_turn_of reads w moment created order)
host_turn_works reads w moment created (W.Up terminal which) at noise =
    terminal_works (world_of w) moment created terminal which (counted_at w.counted terminal) (slice_get w.terminals terminal) at refl
host_turn_works reads w moment created (W.Publish rows) at noise =
    cond_both (nat_lt (length (published w.host.settled)) 10000) _ _ (HostWorksOf (world_of w)) (λ lt. (ltb-true _ _ lt, refl, refl)) (λ _. tt)
host_turn_works reads w moment created (W.Listen bytes) at noise =
    (noise, refl, refl, replies_work w.host.settled moment created (reads bytes) (answer_received w.host.settled (reads bytes)).reply at)

host_chained : (w : Scene) (work : Option HostWork) → w.host.on ≡ true → HostWorks (world_of w) work → Chained w (host_made w work)
host_chained w None on does = tt
host_chained w (Some work) on does = (
  (work.added, work.receiver, work.replies, on, does, refl),
  (work.added, work.receiver, work.replies, on, does, refl),
  tt,
)

-- an opening
opens_chained : (w : Scene) (old : Doubt) (stays : Bool) (kept place : ℕ) (s : TerminalState) → slice_get w.terminals place ≡ Some s → Chained w (opens w old stays kept place s ∷ [])
opens_chained w old true kept place s there = ((s, _, there, refl, refl), (s, _, there, refl, refl), tt)
opens_chained w old false kept place s there = ((s, _, there, refl, refl), (s, _, there, refl, refl), tt)

host_opens_chained : (w : Scene) (old : Doubt) (stays : Bool) (kept : ℕ) → Chained w (host_opens w old stays kept ∷ [])
host_opens_chained w old true kept = (refl, refl, tt)
host_opens_chained w old false kept = (refl, refl, tt)

-- the plan of a line
abbrev PlanChained : Scene → Plan → Type 0
PlanChained w plan = Chained w plan.steps

terminal_chained : (w : Scene) (s : Option TerminalState) (rest : TerminalState → Plan) → ((t : TerminalState) → s ≡ Some t → PlanChained w (rest t)) → PlanChained w (terminal_plan s rest)
terminal_chained w None rest does = tt
terminal_chained w (Some s) rest does = does s refl

on_at : (w : Scene) (place : ℕ) (s : TerminalState) → slice_get w.terminals place ≡ Some s → is_on w (Terminal place) ≡ true → s.on ≡ true
on_at w place s there on = subst (λ o. terminal_is_on o ≡ true) there on

-- noise is foreign to the end at which it arrives
noise_at_terminal : (reads : List ℕ → Received) (s : Schedule) (w : World) (place : ℕ) (t : TerminalState) (order : Order) → InRange s → IsSetUp s w → slice_get w.terminals place ≡ Some t → IsNoiseOfOrder reads s order → NoiseIsNotOurs reads t order
noise_at_terminal reads s w place t (T.Hear bytes) range set_up there noise = noise_is_not_ours s w place t (reads bytes) range set_up there noise
noise_at_terminal reads s w place t order range set_up there noise = tt

noise_at_host : (reads : List ℕ → Received) (s : Schedule) (w : World) (order : HostOrder) → IsSetUp s w → IsNoiseOfHostOrder reads s order → NoiseIsForeign reads w order
noise_at_host reads s w (W.Listen bytes) set_up noise = noise_is_foreign s w (reads bytes) set_up noise
noise_at_host reads s w order set_up noise = tt

plan_chained : (reads : List ℕ → Received) (s : Schedule) (w : Scene) (old : Doubt) (kept : ℕ) (prefix : Option Prefix) (number : ℕ) (created : DateParts) (action : Action)
    → InRange s → IsSetUp s (world_of w) → ActionInRange action → IsNoise reads s action → IsMoment (moment_of number) created → is_possible w action ≡ true
    → PlanChained w (plan reads w old kept prefix number created action)
plan_chained reads s w old kept prefix number created (AtTerminal place order) all set_up range noise at on =
    terminal_chained w (slice_get w.terminals place) _ (λ t there.
    chained w place t _ there (on_at w place t there on) (turn_works reads t (counted_at w.counted place) (moment_of number) created order at range (noise_at_terminal reads s (world_of w) place t order all set_up there noise)))
plan_chained reads s w old kept prefix number created (AtHost order) all set_up range noise at on =
    host_chained w _ on (host_turn_works reads w (moment_of number) created order at (noise_at_host reads s (world_of w) order set_up noise))
plan_chained reads s w old kept prefix number created (Reopen (Terminal place)) all set_up range noise at on =
    terminal_chained w (slice_get w.terminals place) _ (λ t there. opens_chained w old (fails_first prefix) kept place t there)
plan_chained reads s w old kept prefix number created (Reopen Host) all set_up range noise at on = host_opens_chained w old (fails_first prefix) kept

off_runs : (w : Scene) (end : End) → RunsTo w (off_at w end)
off_runs w Host = (_, refl, refl)
off_runs w (Terminal place) = terminal_off_runs (slice_get w.terminals place) refl
  where
    terminal_off_runs : (s : Option TerminalState) → slice_get w.terminals place ≡ s → RunsTo w (terminal_off w place s)
    terminal_off_runs None there = refl
    terminal_off_runs (Some s) there = (_, (s, _, there, refl, refl), refl)

cut_after_runs : (w : Scene) (end : End) (made : List Made) → Chained w made → RunsTo w (fate_cut_after w end made)
cut_after_runs w end [] c = off_runs w end
cut_after_runs w end (m ∷ made) c = after_runs w m made c

fate_of_runs : (prefix : Option Prefix) (w : Scene) (end : End) (plan : Plan) → PlanChained w plan → RunsTo w (fate_of prefix w end plan)
fate_of_runs None w end plan c = whole_runs w plan.steps plan.outcome c
fate_of_runs (Some (Cut call fill)) w end plan c = in_runs w plan.steps plan.outcome _ call c
fate_of_runs (Some (Fail call fill)) w end plan c = in_runs w plan.steps plan.outcome _ call c
fate_of_runs (Some CutAfter) w end plan c = cut_after_runs w end plan.steps c

pub fate_runs : (reads : List ℕ → Received) (s : Schedule) (w : Scene) (old : Doubt) (kept : ℕ) (created : DateParts) (line : Line)
    → InRange s → IsReached s w → ActionInRange line.action → IsNoise reads s line.action → IsMoment (moment_of line.number) created → RunsTo w (fate reads w old kept created line)
fate_runs reads s w old kept created line all (happenings, run) range noise at =
    let set_up : IsSetUp s (world_of w) = reached_set_up s (world_of w) happenings run in
    cond_both (is_possible w line.action) _ _ (RunsTo w)
    (λ on. fate_of_runs line.prefix w (acting line.action) _ (plan_chained reads s w old kept line.prefix line.number created line.action all set_up range noise at on))
    (λ _. refl)

opening_chained : (w : Scene) (old : Doubt) (kept : ℕ) (end : End) → PlanChained w (opening_plan w old kept end)
opening_chained w old kept Host = host_opens_chained w old false kept
opening_chained w old kept (Terminal place) = terminal_chained w (slice_get w.terminals place) _ (λ t there. opens_chained w old false kept place t there)

pub closing_runs : (w : Scene) (old : Doubt) (kept : ℕ) (end : End) → RunsTo w (closing_fate w old kept end)
closing_runs w old kept end =
    cond_both (is_on w end) _ _ (RunsTo w) (λ _. refl) (λ _. whole_runs w _ _ (opening_chained w old kept end))

-- two runs, one after the other
pub runs_append : (u v w : World) (first second : List Happening) → Run u first v → Run v second w → Run u (first ++ second) w
runs_append u v w [] second is run = subst (λ x. Run x second w) is run
runs_append u v w (h ∷ first) second (next, step, more) run = (next, step, runs_append next v w first second more run)

pub reached_by : (s : Schedule) (w : Scene) (f : Fate) → IsReached s w → RunsTo w f → IsReached s f.scene
reached_by s w f (happenings, run) runs = (happenings ++ f.happenings, runs_append (first_world s) (world_of w) (world_of f.scene) happenings f.happenings run runs)

abbrev PlayRuns : Scene → Played → Type 0
PlayRuns w played = Run (world_of w) played.happenings (world_of played.last)

reopens_run : (ends : List End) (w : Scene) (doubts : Doubts) (played : Played) → Reopens ends w doubts played → PlayRuns w played
reopens_run [] w doubts played is = subst (PlayRuns w) (sym is) refl
reopens_run (end ∷ ends) w doubts played (kept, more, keeps, rest, is) =
    let f = closing_fate w (doubt_at doubts end) kept end in
    subst (PlayRuns w) (sym is) (runs_append (world_of w) (world_of f.scene) (world_of more.last) f.happenings more.happenings (closing_runs w (doubt_at doubts end) kept end) (reopens_run ends f.scene doubts more rest))

plays_run : (reads : List ℕ → Received) (s : Schedule) (lines : List Line) (w : Scene) (doubts : Doubts) (played : Played) → InRange s → IsReached s w
    → AllByRecursion (λ (line : Line). ActionInRange line.action) lines → AllByRecursion (λ (line : Line). IsNoise reads s line.action) lines → Plays reads lines w doubts played → PlayRuns w played
plays_run reads s [] w doubts played all reached range noise does = reopens_run (ends_of w) w doubts played does
plays_run reads s (line ∷ lines) w doubts played all reached (range, ranges) (noise, noises) (created, kept, more, at, keeps, rest, is) =
    let old = doubt_at doubts (acting line.action) in
    let f = fate reads w old kept created line in
    let runs : RunsTo w f = fate_runs reads s w old kept created line all reached range noise at in
    subst (PlayRuns w) (sym is) (runs_append (world_of w) (world_of f.scene) (world_of more.last) f.happenings more.happenings runs
    (plays_run reads s lines f.scene (with_doubt doubts (acting line.action) f.doubt) more all (reached_by s w f reached runs) ranges noises rest))

pub does_run : EveryPlayIsARun
does_run reads s played range noise does = plays_run reads s s.lines (first_scene s) (first_doubts s) played range ([], refl) range.lines noise does
