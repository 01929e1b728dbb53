-- From every world of every run there is a way on after which nothing waits.
use Rattle.std.proofs.Common.{◌≡◌, ℕ, zero, suc, ◌+◌, ◌*◌, ◌<◌, Bool, true, false, List, [], ◌∷◌, ◌++◌, length, take, drop, Option, Some, sym, ◌∙◌, ap, subst, append_assoc, append-nil, length-append, arith, set, refl, not, eq-eqb, leb-true, ltb-true, lit≤}
use Rattle.std.specs.Prelude.{if◌then◌else◌, slice_get, nat_le, nat_lt, bytes_eq, ◌==◌}
use Rattle.std.specs.List.{AllByRecursion}
use Rattle.std.proofs.lemmas.Bool.{cond_both, cond-true, cond-false, and_from, false≢true}
use Rattle.std.proofs.lemmas.Option.{same_Some, none-some}
use Rattle.cap_base.specs.declared.item.Item.{Item}
use Rattle.cap_base.specs.declared.item.Item.TheVariants.{Sale, Void, Cancel, Close}
use Rattle.cap_base.specs.declared.codes.Response.TheVariants.{Appr}
use Rattle.cap_leaf.specs.Date.{DateParts}
use Rattle.cap_msgs.specs.declared.message.Body.{Body}
use Rattle.cap_msgs.specs.declared.message.Message.{Message}
use Rattle.cap_msgs.specs.Received.{Read}
use Rattle.cap_msgs.specs.Moment.{IsMoment, counter}
use Rattle.cap_msgs.specs.Report.{Report, Advice, report_of, advice_of}
use Rattle.cap_msgs.specs.Reply.{Acknowledgement, Of_end, Of_cancel, Of_close, Of_items, acknowledges, reply_of, named_item}
use Rattle.cap_entries.specs.Settings.{TerminalSettings, HostSettings}
use Rattle.cap_entries.specs.SetUps.{SetUpsMatch}
use Rattle.cap_entries.specs.declared.terminal.TermEntry.{TermEntry}
use Rattle.cap_entries.specs.declared.terminal.TermEntry.TheVariants.{Setup, Begin, Declined, Completed, Voided, Cancelled, Closed, Acked, Part}
use Rattle.cap_entries.specs.declared.host.HostEntry.{HostEntry}
use Rattle.cap_entries.specs.Entry.{term_setup_of}
use Rattle.cap_entries.specs.Items.{items}
use Rattle.cap_entries.specs.ItemsLaws.{items-push}
use Rattle.cap_entries.specs.Acked.{acked, acked_from}
use Rattle.cap_entries.specs.Log.{log, setup_of}
use Rattle.cap_plain.specs.Queue.{queue}
use Rattle.cap_host_answers.specs.Received.{answer_received, Replies, reply_to}
use Rattle.cap_terminal_answers.specs.Takes.{Taken, queue_head, is_awaited, take_acknowledgement, take_reply, is_for_us, takes}
use Rattle.cap_terminal_answers.specs.Does.{Leave}
use Rattle.cap_terminal_answers.specs.Sends.{Head, message_of}
use Rattle.cap_answering.specs.Steps.{Acts, Restart}
use Rattle.cap_world.specs.World.{TerminalState, HostState, World, Sends_message, Takes_answer, TerminalStep, HostStep, Answers, delivered, Happening, At_terminal, At_host, Step, first, Run}
use Rattle.cap_world.specs.Accepted.{approval_of, Accepts}
use Rattle.cap_world.specs.Settled.{opened, opened_host, openings, restarts, IsWork, waiting, IsSettled, Settles, EveryRunCanSettle}
use Rattle.cap_world.proofs.Named.{all_append, answered_by, names_same, own_host}
use Rattle.cap_world.proofs.Steps.{agreed, setup_settled}
use Rattle.cap_world.proofs.Lawful.{Lawful, accepted, step_lawful, lawful_run}

-- a world of these ends
abbrev world : HostState → List TerminalState → World
world host terminals = record { host = host; terminals = terminals }

run_append : (w mid new : World) (before after : List Happening) → Run w before mid → Run mid after new → Run w (before ++ after) new
run_append w mid new [] after is run = subst (λ v. Run v after new) is run
run_append w mid new (happening ∷ before) after (next, step, first') run = (next, step, run_append next mid new before after first' run)

-- the element behind a front
at_there : {X : Type 0} (front rest : List X) (x : X) → slice_get (front ++ x ∷ rest) (length front) ≡ Some x
at_there [] rest x = refl
at_there (f ∷ front) rest x = at_there front rest x

set_there : {X : Type 0} (front rest : List X) (x y : X) → set (front ++ x ∷ rest) (length front) y ≡ front ++ y ∷ rest
set_there [] rest x y = refl
set_there (f ∷ front) rest x y = ap (λ l. f ∷ l) (set_there front rest x y)

delivered_there : (front rest : List TerminalState) (s : TerminalState) (messages : List Message) → delivered (front ++ s ∷ rest) (length front) messages ≡ front ++ answered_by s messages ∷ rest
delivered_there [] rest s messages = refl
delivered_there (f ∷ front) rest s messages = ap (λ l. f ∷ l) (delivered_there front rest s messages)

behind : {X : Type 0} (front rest : List X) (x : X) → front ++ x ∷ rest ≡ (front ++ x ∷ []) ++ rest
behind [] rest x = refl
behind (f ∷ front) rest x = ap (λ l. f ∷ l) (behind front rest x)

one_longer : {X : Type 0} (front : List X) (x : X) → length (front ++ x ∷ []) ≡ suc (length front)
one_longer [] x = refl
one_longer (f ∷ front) x = ap suc (one_longer front x)

-- the first of what is left behind a number of elements
drop_head : {X : Type 0} (n : ℕ) (xs : List X) (x : X) (more : List X) → drop n xs ≡ x ∷ more → slice_get xs n ≡ Some x
drop_head zero [] x more e = absurd (let no' : ⊥ = cc in no')
drop_head zero (y ∷ xs) x more e = let same : y ≡ x = cc in ap Some same
drop_head (suc n) [] x more e = absurd (let no' : ⊥ = cc in no')
drop_head (suc n) (y ∷ xs) x more e = drop_head n xs x more e

drop_tail : {X : Type 0} (n : ℕ) (xs : List X) (x : X) (more : List X) → drop n xs ≡ x ∷ more → drop (suc n) xs ≡ more
drop_tail zero [] x more e = absurd (let no' : ⊥ = cc in no')
drop_tail zero (y ∷ xs) x more e = cc
drop_tail (suc n) [] x more e = absurd (let no' : ⊥ = cc in no')
drop_tail (suc n) (y ∷ xs) x more e = drop_tail n xs x more e

drop_within : {X : Type 0} (n : ℕ) (xs : List X) (x : X) (more : List X) → drop n xs ≡ x ∷ more → n < length xs
drop_within zero [] x more e = absurd (let no' : ⊥ = cc in no')
drop_within zero (y ∷ xs) x more e = omega arith
drop_within (suc n) [] x more e = absurd (let no' : ⊥ = cc in no')
drop_within (suc n) (y ∷ xs) x more e = omega (arith, drop_within n xs x more e)

-- an acknowledgement is the last one
acked_push : (a : ℕ) (entries : List TermEntry) (m : ℕ) → acked_from a (entries ++ Acked m ∷ []) ≡ m
acked_push a [] m = refl
acked_push a (Setup settings ∷ entries) m = acked_push a entries m
acked_push a (Begin k amount account ∷ entries) m = acked_push a entries m
acked_push a (Declined k ∷ entries) m = acked_push a entries m
acked_push a (Completed k code ∷ entries) m = acked_push a entries m
acked_push a (Voided k ∷ entries) m = acked_push a entries m
acked_push a (Cancelled k ∷ entries) m = acked_push a entries m
acked_push a (Closed k ∷ entries) m = acked_push a entries m
acked_push a (Acked k ∷ entries) m = acked_push k entries m
acked_push a (Part part ∷ entries) m = acked_push a entries m

items_kept : (entries : List TermEntry) (m : ℕ) → items (entries ++ Acked m ∷ []) ≡ items entries
items_kept entries m = items-push entries (Acked m)

queue_less : (entries : List TermEntry) (item : Item) (more : List Item) → queue entries ≡ item ∷ more → queue (entries ++ Acked (acked entries + 1) ∷ []) ≡ more
queue_less entries item more e =
    ap (λ n. drop n (items (entries ++ Acked (acked entries + 1) ∷ []))) (acked_push 0 entries (acked entries + 1))
    ∙ (ap (drop (acked entries + 1)) (items_kept entries (acked entries + 1))
    ∙ (ap (λ n. drop n (items entries)) (let s : acked entries + 1 ≡ suc (acked entries) = omega arith in s)
    ∙ drop_tail (acked entries) (items entries) item more e))

-- the acknowledgement of the oldest item
acknowledgement_taken : (entries : List TermEntry) (ack : Acknowledgement) → acknowledges ack ≡ true → is_awaited entries (acked entries + 1) ack ≡ true → acked entries < length (items entries)
    → (take_acknowledgement entries (acked entries + 1) ack).added ≡ Acked (acked entries + 1) ∷ []
acknowledgement_taken entries ack good awaited within =
    let m = acked entries + 1 in
    let P : Taken → Type 0 = λ t. t.added ≡ Acked m ∷ [] in
    cond_both (not (acknowledges ack)) _ _ P (λ no'. absurd (false≢true (sym (ap not good) ∙ no')))
    (λ _. cond_both (nat_le m (acked entries)) _ _ P (λ le. absurd (omega (arith, leb-true m (acked entries) le)))
    (λ _. cond_both (nat_lt (length (items entries)) m) _ _ P (λ past. absurd (omega (arith, ltb-true (length (items entries)) m past, within)))
    (λ _. cond_both (is_awaited entries m ack) _ _ P (λ _. refl) (λ no'. absurd (false≢true (sym no' ∙ awaited))))))

approval_taken : (entries : List TermEntry) (item : Item) → queue_head entries ≡ Some item → acked entries < length (items entries)
    → (take_reply entries (acked entries + 1) (reply_of (approval_of item))).added ≡ Acked (acked entries + 1) ∷ []
approval_taken entries (Sale n amount account code) head within =
    acknowledgement_taken entries (Of_end Appr) refl (and_from _ _ (eq-eqb (acked entries + 1) (acked entries + 1) refl) (rw head refl)) within
approval_taken entries (Void n) head within =
    acknowledgement_taken entries (Of_end Appr) refl (and_from _ _ (eq-eqb (acked entries + 1) (acked entries + 1) refl) (rw head refl)) within
approval_taken entries (Cancel n amount) head within =
    acknowledgement_taken entries (Of_cancel Appr) refl (and_from _ _ (eq-eqb (acked entries + 1) (acked entries + 1) refl) (rw head refl)) within
approval_taken entries (Close p sums) head within =
    acknowledgement_taken entries (Of_close Appr p sums) refl (and_from _ _ (eq-eqb (acked entries + 1) (acked entries + 1) refl) (rw head (eq-eqb p p refl))) within

advice_reports : (item : Item) → report_of (advice_of item) ≡ Advice item
advice_reports (Sale n amount account code) = refl
advice_reports (Void n) = refl
advice_reports (Cancel n amount) = refl
advice_reports (Close p sums) = refl

-- the three happenings of an item
abbrev item_work : (place which answer moment : ℕ) → List Happening
item_work place which answer moment =
    At_terminal place (Acts (Sends_message (Head 0) moment)) ∷ At_host (Acts (Answers place which moment)) ∷ At_terminal place (Acts (Takes_answer answer Leave)) ∷ []

-- what a way on does for the terminal behind a front
record Way (host : HostSettings) (all : List TerminalSettings) (h : HostState) (front : List TerminalState) (s : TerminalState) (rest : List TerminalState) (left : List Item) (size : ℕ) : Type 0 where
  work : List Happening
  next_host : HostState
  next : TerminalState
  is_work : AllByRecursion IsWork work
  is_size : length work ≡ size
  run : Run (world h (front ++ s ∷ rest)) work (world next_host (front ++ next ∷ rest))
  lawful : Lawful host all (world next_host (front ++ next ∷ rest))
  host_on : next_host.on ≡ true
  on : next.on ≡ true
  less : queue next.settled ≡ left
  same : items next.settled ≡ items s.settled

module _ (host : HostSettings) (all : List TerminalSettings) (match : SetUpsMatch host all) (moment : ℕ) (created : DateParts) (is_moment : IsMoment moment created) where
  -- the first item of a queue is sent, accepted and acknowledged
  one_item : (h : HostState) (front : List TerminalState) (s : TerminalState) (rest : List TerminalState) (item : Item) (more : List Item)
      → Lawful host all (world h (front ++ s ∷ rest)) → h.on ≡ true → s.on ≡ true → queue s.settled ≡ item ∷ more
      → Way host all h front s rest more 3
  one_item h front s rest item more l host_on on e =
      let place = length front in
      let w0 = world h (front ++ s ∷ rest) in
      let n = acked s.settled + 1 in
      let head : queue_head s.settled ≡ Some item = drop_head (acked s.settled) (items s.settled) item more e in
      let within = drop_within (acked s.settled) (items s.settled) item more e in
      let m = message_of s.settled created (counter 0) n (advice_of item) in
      let s1 : TerminalState = record { settled = s.settled; tried = []; on = true; sent = s.sent ++ m ∷ []; answers = s.answers } in
      let w1 = world h (front ++ s1 ∷ rest) in
      let sends : TerminalStep s (Acts (Sends_message (Head 0) moment)) s1 = (
        [],
        m ∷ [],
        on,
        (m, (item, head, lit≤ tt, (created, is_moment, refl)), refl, refl),
        ap (λ l'. let t : TerminalState = record { settled = l'; tried = []; on = true; sent = s.sent ++ m ∷ []; answers = s.answers } in t) (sym (append-nil s.settled)),
      ) in
      let step1 : Step w0 (At_terminal place (Acts (Sends_message (Head 0) moment))) w1 =
      (s, s1, at_there front rest s, sends, ap (world h) (sym (set_there front rest s s1))) in
      let l1 = step_lawful host all w0 w1 (At_terminal place (Acts (Sends_message (Head 0) moment))) l step1 in
      let sent : slice_get s1.sent (length s.sent) ≡ Some m = at_there s.sent [] m in
      let answered = answer_received h.settled (Read m) in
      let reply : answered.reply ≡ Some (approval_of item) =
      subst (λ (r : Report). Accepts n r answered.reply) (advice_reports item)
      (accepted host all w1 l1 place s1 (at_there front rest s1) (length s.sent) m sent h.settled (0, sym (append-nil h.settled))) in
      let r = reply_to h.settled created (Read m) (approval_of item) in
      let replies : Replies h.settled moment (Read m) answered.reply (r ∷ []) =
      subst (λ (o : Option Body). Replies h.settled moment (Read m) o (r ∷ [])) (sym reply) (created, is_moment, refl) in
      let h2 : HostState = record { settled = h.settled ++ answered.added; tried = []; on = true } in
      let s2 = answered_by s1 (r ∷ []) in
      let w2 = world h2 (front ++ s2 ∷ rest) in
      let step2 : Step w1 (At_host (Acts (Answers place (length s.sent) moment))) w2 =
      (answered.added, place, r ∷ [], host_on, (s1, m, at_there front rest s1, sent, refl, refl, replies), ap (world h2) (sym (delivered_there front rest s1 (r ∷ [])))) in
      let l2 = step_lawful host all w1 w2 (At_host (Acts (Answers place (length s.sent) moment))) l1 step2 in
      let ours : is_for_us s.settled r ≡ true =
      and_from _ _ (names_same (term_setup_of s.settled).terminal)
      (subst (λ name. bytes_eq name (term_setup_of s.settled).host ≡ true)
      (own_host host all w0 match l.inv.naming place s (at_there front rest s) ∙ ap (λ (x : HostSettings). x.host) (sym (setup_settled host all w0 l.inv)))
      (names_same (term_setup_of s.settled).host)) in
      let taken : (takes s.settled (Read r)).added ≡ Acked n ∷ [] =
      ap (λ (t : Taken). t.added) (cond-true (is_for_us s.settled r) _ _ ours) ∙ approval_taken s.settled item head within in
      let s3 : TerminalState = record { settled = s.settled ++ Acked n ∷ []; tried = []; on = true; sent = s2.sent; answers = s2.answers } in
      let w3 = world h2 (front ++ s3 ∷ rest) in
      let takes_it : TerminalStep s2 (Acts (Takes_answer (length s.answers) Leave)) s3 = (
        (takes s.settled (Read r)).added ++ [],
        [],
        refl,
        (r, [], at_there s.answers [] r, refl, refl, refl),
        (let same : s.settled ++ ((takes s.settled (Read r)).added ++ []) ≡ s.settled ++ Acked n ∷ [] = ap (λ l'. s.settled ++ l') (append-nil _ ∙ taken) in
            let none : s2.sent ++ [] ≡ s2.sent = append-nil s2.sent in
            sym (ap (λ l'. let t : TerminalState = record { settled = l'; tried = []; on = true; sent = s2.sent ++ []; answers = s2.answers } in t) same
            ∙ ap (λ l'. let t : TerminalState = record { settled = s.settled ++ Acked n ∷ []; tried = []; on = true; sent = l'; answers = s2.answers } in t) none)),
      ) in
      let step3 : Step w2 (At_terminal place (Acts (Takes_answer (length s.answers) Leave))) w3 =
      (s2, s3, at_there front rest s2, takes_it, ap (world h2) (sym (set_there front rest s2 s3))) in
      record {
        work = item_work place (length s.sent) (length s.answers) moment;
        next_host = h2;
        next = s3;
        is_work = (tt, (tt, (tt, tt)));
        is_size = refl;
        run = (w1, step1, (w2, step2, (w3, step3, refl)));
        lawful = step_lawful host all w2 w3 (At_terminal place (Acts (Takes_answer (length s.answers) Leave))) l2 step3;
        host_on = refl;
        on = refl;
        less = queue_less s.settled item more e;
        same = items_kept s.settled n;
      }

  -- a whole queue
  all_items : (waits : List Item) (h : HostState) (front : List TerminalState) (s : TerminalState) (rest : List TerminalState)
      → Lawful host all (world h (front ++ s ∷ rest)) → h.on ≡ true → s.on ≡ true → queue s.settled ≡ waits
      → Way host all h front s rest [] (3 * length waits)
  all_items [] h front s rest l host_on on e =
      record { work = []; next_host = h; next = s; is_work = tt; is_size = refl; run = refl; lawful = l; host_on = host_on; on = on; less = e; same = refl }
  all_items (item ∷ more) h front s rest l host_on on e =
      let a = one_item h front s rest item more l host_on on e in
      let b = all_items more a.next_host front a.next rest a.lawful a.host_on a.on a.less in
      record {
        work = a.work ++ b.work;
        next_host = b.next_host;
        next = b.next;
        is_work = all_append IsWork a.work b.work a.is_work b.is_work;
        is_size = length-append a.work b.work ∙ omega (arith, a.is_size, b.is_size);
        run = run_append _ _ _ a.work b.work a.run b.run;
        lawful = b.lawful;
        host_on = b.host_on;
        on = b.on;
        less = b.less;
        same = b.same ∙ a.same;
      }

-- how many items wait
abbrev waits_of : List TerminalState → ℕ
waits_of [] = 0
waits_of (s ∷ terminals) = length (queue s.settled) + waits_of terminals

abbrev AreOn : List TerminalState → Type 0
AreOn terminals = AllByRecursion (λ (s : TerminalState). s.on ≡ true) terminals

-- a terminal with nothing left of its queue
record Emptied (before after : TerminalState) : Type 0 where
  on : after.on ≡ true
  empty : queue after.settled ≡ []
  same : items after.settled ≡ items before.settled

abbrev AreEmptied : List TerminalState → List TerminalState → Type 0
AreEmptied [] [] = Unit {0}
AreEmptied (s ∷ before) (t ∷ after) = Emptied s t × AreEmptied before after
AreEmptied _ _ = ⊥

record Ways (host : HostSettings) (all : List TerminalSettings) (h : HostState) (front rest : List TerminalState) : Type 0 where
  work : List Happening
  next_host : HostState
  next : List TerminalState
  is_work : AllByRecursion IsWork work
  is_size : length work ≡ 3 * waits_of rest
  run : Run (world h (front ++ rest)) work (world next_host (front ++ next))
  lawful : Lawful host all (world next_host (front ++ next))
  host_on : next_host.on ≡ true
  emptied : AreEmptied rest next

module _ (host : HostSettings) (all : List TerminalSettings) (match : SetUpsMatch host all) (moment : ℕ) (created : DateParts) (is_moment : IsMoment moment created) where
  all_queues : (h : HostState) (front rest : List TerminalState) → Lawful host all (world h (front ++ rest)) → h.on ≡ true → AreOn rest → Ways host all h front rest
  all_queues h front [] l host_on on =
      record { work = []; next_host = h; next = []; is_work = tt; is_size = refl; run = refl; lawful = l; host_on = host_on; emptied = tt }
  all_queues h front (s ∷ rest) l host_on (on, on_rest) =
      let a = all_items host all match moment created is_moment (queue s.settled) h front s rest l host_on on refl in
      let l' = subst (λ t. Lawful host all (world a.next_host t)) (behind front rest a.next) a.lawful in
      let b = all_queues a.next_host (front ++ a.next ∷ []) rest l' a.host_on on_rest in
      let back : (front ++ a.next ∷ []) ++ b.next ≡ front ++ a.next ∷ b.next = sym (behind front b.next a.next) in
      let run_b : Run (world a.next_host (front ++ a.next ∷ rest)) b.work (world b.next_host (front ++ a.next ∷ b.next)) =
      subst (λ t. Run (world a.next_host (front ++ a.next ∷ rest)) b.work (world b.next_host t)) back
      (subst (λ t. Run (world a.next_host t) b.work (world b.next_host ((front ++ a.next ∷ []) ++ b.next))) (sym (behind front rest a.next)) b.run) in
      record {
        work = a.work ++ b.work;
        next_host = b.next_host;
        next = a.next ∷ b.next;
        is_work = all_append IsWork a.work b.work a.is_work b.is_work;
        is_size = length-append a.work b.work ∙ omega (arith, a.is_size, b.is_size);
        run = run_append _ _ _ a.work b.work a.run run_b;
        lawful = subst (λ t. Lawful host all (world b.next_host t)) back b.lawful;
        host_on = b.host_on;
        emptied = (record { on = a.on; empty = a.less; same = a.same }, b.emptied);
      }

-- all terminals once they are on
abbrev opened_all : (place : ℕ) → (kept : ℕ → ℕ) → List TerminalState → List TerminalState
opened_all place kept [] = []
opened_all place kept (s ∷ terminals) = opened (kept place) s ∷ opened_all (suc place) kept terminals

opened_on : (kept : ℕ) (s : TerminalState) → (opened kept s).on ≡ true
opened_on kept s = cond_both s.on _ _ (λ (t : TerminalState). t.on ≡ true) (λ on. on) (λ _. refl)

opened_host_on : (held : ℕ) (h : HostState) → (opened_host held h).on ≡ true
opened_host_on held h = cond_both h.on _ _ (λ (t : HostState). t.on ≡ true) (λ on. on) (λ _. refl)

all_opened_on : (place : ℕ) (kept : ℕ → ℕ) (terminals : List TerminalState) → AreOn (opened_all place kept terminals)
all_opened_on place kept [] = tt
all_opened_on place kept (s ∷ terminals) = (opened_on (kept place) s, all_opened_on (suc place) kept terminals)

opened_waits : (place : ℕ) (kept : ℕ → ℕ) (terminals : List TerminalState) → waits_of (opened_all place kept terminals) ≡ waiting place kept terminals
opened_waits place kept [] = refl
opened_waits place kept (s ∷ terminals) = ap (λ n. length (queue (opened (kept place) s).settled) + n) (opened_waits (suc place) kept terminals)

-- one terminal is opened where it is off
one_opened : (h : HostState) (front rest : List TerminalState) (s : TerminalState) (kept : ℕ) (on : Bool) → s.on ≡ on
    → Run (world h (front ++ s ∷ rest)) (if s.on then [] else At_terminal (length front) (Restart kept) ∷ []) (world h (front ++ opened kept s ∷ rest))
one_opened h front rest s kept true e =
    subst (λ (b : Bool). Run (world h (front ++ s ∷ rest)) (if b then [] else At_terminal (length front) (Restart kept) ∷ []) (world h (front ++ (if b then s else record { settled = s.settled ++ take kept s.tried; tried = []; on = true; sent = s.sent; answers = s.answers }) ∷ rest)))
    (sym e) refl
one_opened h front rest s kept false e =
    let s' : TerminalState = record { settled = s.settled ++ take kept s.tried; tried = []; on = true; sent = s.sent; answers = s.answers } in
    subst (λ (b : Bool). Run (world h (front ++ s ∷ rest)) (if b then [] else At_terminal (length front) (Restart kept) ∷ []) (world h (front ++ (if b then s else record { settled = s.settled ++ take kept s.tried; tried = []; on = true; sent = s.sent; answers = s.answers }) ∷ rest)))
    (sym e)
    (world h (front ++ s' ∷ rest), (s, s', at_there front rest s, refl, ap (world h) (sym (set_there front rest s s'))), refl)

opened_run : (h : HostState) (kept : ℕ → ℕ) (front rest : List TerminalState) → Run (world h (front ++ rest)) (openings (length front) kept rest) (world h (front ++ opened_all (length front) kept rest))
opened_run h kept front [] = refl
opened_run h kept front (s ∷ rest) =
    let t = opened (kept (length front)) s in
    let first' = one_opened h front rest s (kept (length front)) s.on refl in
    let later = opened_run h kept (front ++ t ∷ []) rest in
    let later' : Run (world h ((front ++ t ∷ []) ++ rest)) (openings (suc (length front)) kept rest) (world h ((front ++ t ∷ []) ++ opened_all (suc (length front)) kept rest)) =
    subst (λ k. Run (world h ((front ++ t ∷ []) ++ rest)) (openings k kept rest) (world h ((front ++ t ∷ []) ++ opened_all k kept rest))) (one_longer front t) later in
    let later'' : Run (world h (front ++ t ∷ rest)) (openings (suc (length front)) kept rest) (world h (front ++ t ∷ opened_all (suc (length front)) kept rest)) =
    subst (λ x. Run (world h x) (openings (suc (length front)) kept rest) (world h (front ++ t ∷ opened_all (suc (length front)) kept rest))) (sym (behind front rest t))
    (subst (λ x. Run (world h ((front ++ t ∷ []) ++ rest)) (openings (suc (length front)) kept rest) (world h x)) (sym (behind front (opened_all (suc (length front)) kept rest) t)) later') in
    run_append _ _ _ _ _ first' later''

host_opened : (w : World) (held : ℕ) (on : Bool) → w.host.on ≡ on → Run w (if w.host.on then [] else At_host (Restart held) ∷ []) (world (opened_host held w.host) w.terminals)
host_opened w held true e =
    subst (λ (b : Bool). Run w (if b then [] else At_host (Restart held) ∷ []) (world (if b then w.host else record { settled = w.host.settled ++ take held w.host.tried; tried = []; on = true }) w.terminals)) (sym e) refl
host_opened w held false e =
    subst (λ (b : Bool). Run w (if b then [] else At_host (Restart held) ∷ []) (world (if b then w.host else record { settled = w.host.settled ++ take held w.host.tried; tried = []; on = true }) w.terminals)) (sym e)
    (world (record { settled = w.host.settled ++ take held w.host.tried; tried = []; on = true }) w.terminals, refl, refl)

all_opened : (w : World) (held : ℕ) (kept : ℕ → ℕ) → Run w (restarts w held kept) (world (opened_host held w.host) (opened_all 0 kept w.terminals))
all_opened w held kept =
    run_append _ _ _ _ _ (host_opened w held w.host.on refl) (opened_run (opened_host held w.host) kept [] w.terminals)

lawful_on : (host : HostSettings) (all : List TerminalSettings) (w new : World) (happenings : List Happening) → Lawful host all w → Run w happenings new → Lawful host all new
lawful_on host all w new [] l is = subst (Lawful host all) (sym is) l
lawful_on host all w new (happening ∷ happenings) l (next, step, run) = lawful_on host all next new happenings (step_lawful host all w next happening l step) run

-- the terminal at a place, before and after
emptied_at : (place start : ℕ) (kept : ℕ → ℕ) (terminals after : List TerminalState) (s : TerminalState) → AreEmptied (opened_all start kept terminals) after → slice_get terminals place ≡ Some s
    → (t : TerminalState) × (slice_get after place ≡ Some t) × Emptied (opened (kept (start + place)) s) t
emptied_at place start kept [] after s p at = absurd (none-some s at)
emptied_at place start kept (x ∷ terminals) [] s p at = absurd p
emptied_at zero start kept (x ∷ terminals) (t ∷ after) s (p, ps) at =
    (t, refl, subst (λ (k : ℕ). Emptied (opened (kept k) s) t) (let e : start ≡ start + 0 = omega arith in e) (subst (λ (v : TerminalState). Emptied (opened (kept start) v) t) (same_Some x s at) p))
emptied_at (suc place) start kept (x ∷ terminals) (t ∷ after) s (p, ps) at =
    let (u, there, e) = emptied_at place (suc start) kept terminals after s ps at in
    (u, there, subst (λ (k : ℕ). Emptied (opened (kept k) s) u) (let e' : suc start + place ≡ start + suc place = omega arith in e') e)

pub every_run_can_settle : EveryRunCanSettle
every_run_can_settle host all happenings w match run held kept moment created is_moment =
    let l = lawful_run host all happenings w match run in
    let openings' = all_opened w held kept in
    let h1 = opened_host held w.host in
    let ts = opened_all 0 kept w.terminals in
    let l1 = lawful_on host all w (world h1 ts) (restarts w held kept) l openings' in
    let a = all_queues host all match moment created is_moment h1 [] ts l1 (opened_host_on held w.host) (all_opened_on 0 kept w.terminals) in
    let new = world a.next_host a.next in (
      a.work,
      new,
      a.is_work,
      a.is_size ∙ ap (λ n. 3 * n) (opened_waits 0 kept w.terminals),
      run_append w (world h1 ts) new (restarts w held kept) a.work openings' a.run,
      record {
        host = a.host_on;
        terminals = λ place s at.
            let (t, there, e) = emptied_at place 0 kept w.terminals a.next s a.emptied at in
            let e' : Emptied (opened (kept place) s) t = subst (λ (k : ℕ). Emptied (opened (kept k) s) t) (let same : 0 + place ≡ place = omega arith in same) e in
            let both = agreed host all new a.lawful.inv place t there t.settled (0, sym (append-nil t.settled)) new.host.settled (0, sym (append-nil new.host.settled)) in
            (t, there, record { on = e'.on; empty = e'.empty; same = e'.same; capture = both.capture e'.empty; periods = both.periods e'.empty });
      },
    )

-- a way on that loses an item is none
losing_is_none : (before after : TerminalState) (host : List Item) (item : Item) (more : List Item) → items before.settled ≡ item ∷ more → items after.settled ≡ [] → IsSettled before after host → ⊥
losing_is_none before after host item more some none s = let same : [] ≡ item ∷ more = sym none ∙ (s.same ∙ some) in let no' : ⊥ = cc in no'
