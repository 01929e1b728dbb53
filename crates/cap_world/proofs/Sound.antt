-- What holds of each terminal in every world.
use Rattle.std.proofs.Common.{◌≡◌, ℕ, ◌+◌, ◌<◌, ◌≤◌, Bool, List, [], ◌∷◌, ◌++◌, length, take, drop, get_or, Some, sym, ◌∙◌, ap, subst, append_assoc, append-nil, length-take, length-drop, take-append-drop, arith, false, refl, not}
use Rattle.std.specs.Prelude.{slice_get, nat_le, nat_lt}
use Rattle.std.specs.List.{AllByRecursion}
use Rattle.std.proofs.lemmas.Bool.{cond_both}
use Rattle.std.proofs.lemmas.List.{drop_more}
use Rattle.std.proofs.lemmas.Option.{slice_get_within, get_or_from_slice_get}
use Rattle.cap_base.specs.declared.item.Item.{Item}
use Rattle.cap_base.specs.declared.item.Item.TheVariants.{Sale, Void, Cancel, Close}
use Rattle.cap_base.specs.Captured.{totals}
use Rattle.cap_msgs.specs.declared.message.Message.{Message}
use Rattle.cap_msgs.specs.Received.{Read}
use Rattle.cap_msgs.specs.Report.{Report, Asks_sale, Asks_cancel, Asks_state, Asks_data, Advice, Many, From_host, Unanswered, report_of, advice_of, is_from_host, is_unanswered}
use Rattle.cap_msgs.specs.Reply.{Reply, Rejects, Decides_sale, Decides_cancel, Tells_state, Gives_plan, Gives_part, Acknowledges, From_terminal, reply_of, Acknowledgement, acknowledges, named_item, reply_item}
use Rattle.cap_entries.specs.declared.terminal.TermEntry.{TermEntry}
use Rattle.cap_entries.specs.declared.terminal.TermEntry.TheVariants.{Setup, Begin, Declined, Completed, Voided, Cancelled, Closed, Acked, Part as Part_entry}
use Rattle.cap_entries.specs.Items.{items as items_of}
use Rattle.cap_entries.specs.Acked.{acked, acked_from}
use Rattle.cap_entries.specs.Allowed.{part_allowed}
use Rattle.cap_entries.specs.Log.{log}
use Rattle.cap_entries.specs.Fronts.{IsPrefixOf, prefix_trans}
use Rattle.cap_entries.specs.ItemsLaws.{items_grow}
use Rattle.cap_terminal_answers.specs.declared.handled.Handled.{Handled}
use Rattle.cap_terminal_answers.specs.declared.handled.TermFault.{TermFault}
use Rattle.cap_terminal_answers.specs.Takes.{Taken, is_awaited, take_acknowledgement, take_reply, is_for_us, takes}
use Rattle.cap_terminal_answers.specs.Does.{Decision, Leave, Complete, Give_up, Decline, Decides}
use Rattle.cap_terminal_answers.specs.Sends.{Sending, Head, Batch_of, Ask, Ask_cancel, Diagnose, Report_status, Sends}
use Rattle.cap_world.specs.World.{TerminalState, HostState, TerminalAction, Begins, Offline, Gives_up, Cancels, Closes, Sends_message, Takes_answer, Hears_foreign, TerminalDoes}
use Rattle.cap_world.proofs.Named.{all_append, all_kept, all_at, all_weaker}
use Rattle.std.specs.Prelude.{Result}

-- an Acked names a number at most n
abbrev pub AckWithin : ℕ → TermEntry → Type 0
AckWithin n (Acked m) = m ≤ n
AckWithin n _ = Unit {0}

pub ack_more : (n m : ℕ) → n ≤ m → (entry : TermEntry) → AckWithin n entry → AckWithin m entry
ack_more n m h (Setup settings) p = tt
ack_more n m h (Begin k amount account) p = tt
ack_more n m h (Declined k) p = tt
ack_more n m h (Completed k code) p = tt
ack_more n m h (Voided k) p = tt
ack_more n m h (Cancelled k) p = tt
ack_more n m h (Closed k) p = tt
ack_more n m h (Acked k) p = omega arith
ack_more n m h (Part_entry part) p = tt

pub acked_from_within : (n a : ℕ) (entries : List TermEntry) → a ≤ n → AllByRecursion (AckWithin n) entries → acked_from a entries ≤ n
acked_from_within n a [] h p = h
acked_from_within n a (Setup settings ∷ entries) h p = acked_from_within n a entries h p.1
acked_from_within n a (Begin k amount account ∷ entries) h p = acked_from_within n a entries h p.1
acked_from_within n a (Declined k ∷ entries) h p = acked_from_within n a entries h p.1
acked_from_within n a (Completed k code ∷ entries) h p = acked_from_within n a entries h p.1
acked_from_within n a (Voided k ∷ entries) h p = acked_from_within n a entries h p.1
acked_from_within n a (Cancelled k ∷ entries) h p = acked_from_within n a entries h p.1
acked_from_within n a (Closed k ∷ entries) h p = acked_from_within n a entries h p.1
acked_from_within n a (Acked k ∷ entries) h p = acked_from_within n k entries p.0 p.1
acked_from_within n a (Part_entry part ∷ entries) h p = acked_from_within n a entries h p.1

-- these items stand in a list from number x on, and x is at most one past n
pub record StandsAt (all : List Item) (n x : ℕ) (items : List Item) : Type 0 where
  pub front : List Item
  pub rest : List Item
  pub split : all ≡ front ++ (items ++ rest)
  pub number : x ≡ length front + 1
  pub within : x ≤ n + 1

pub stands_more : (all more : List Item) (n m x : ℕ) (items : List Item) → IsPrefixOf all more → n ≤ m → StandsAt all n x items → StandsAt more m x items
stands_more all more n m x items p h s =
    record {
      front = s.front;
      rest = s.rest ++ p.0;
      split =
          sym p.1 ∙ (ap (λ l. l ++ p.0) s.split
          ∙ (append_assoc s.front (items ++ s.rest) p.0 ∙ ap (λ l. s.front ++ l) (append_assoc items s.rest p.0)));
      number = s.number;
      within = omega (arith, s.within);
    }

-- what a terminal reports are its items under their numbers
abbrev pub ReportOk : List Item → ℕ → ℕ → Report → Type 0
ReportOk all n number (Advice item) = StandsAt all n number (item ∷ [])
ReportOk all n number (Many items) = StandsAt all n number items
ReportOk all n number From_host = ⊥
ReportOk all n number Unanswered = ⊥
ReportOk all n number _ = Unit {0}

abbrev pub SentOk : List Item → ℕ → Message → Type 0
SentOk all n message = ReportOk all n message.header.exchange (report_of message.body)

report_more : (all more : List Item) (n m : ℕ) → IsPrefixOf all more → n ≤ m → (number : ℕ) (report : Report) → ReportOk all n number report → ReportOk more m number report
report_more all more n m p h number (Advice item) s = stands_more all more n m number _ p h s
report_more all more n m p h number (Many items) s = stands_more all more n m number _ p h s
report_more all more n m p h number (Asks_sale amount account) s = tt
report_more all more n m p h number (Asks_cancel amount) s = tt
report_more all more n m p h number Asks_state s = tt
report_more all more n m p h number (Asks_data wanted in_force staged parts) s = tt
report_more all more n m p h number From_host s = absurd s
report_more all more n m p h number Unanswered s = absurd s

pub sent_more : (all more : List Item) (n m : ℕ) → IsPrefixOf all more → n ≤ m → (message : Message) → SentOk all n message → SentOk more m message
sent_more all more n m p h message s = report_more all more n m p h message.header.exchange (report_of message.body) s

-- such a report is one that a host takes up
pub is_taken_up : (all : List Item) (n number : ℕ) (report : Report) → ReportOk all n number report → (is_unanswered report ≡ false) × (is_from_host report ≡ false)
is_taken_up all n number (Advice item) s = (refl, refl)
is_taken_up all n number (Many items) s = (refl, refl)
is_taken_up all n number (Asks_sale amount account) s = (refl, refl)
is_taken_up all n number (Asks_cancel amount) s = (refl, refl)
is_taken_up all n number Asks_state s = (refl, refl)
is_taken_up all n number (Asks_data wanted in_force staged parts) s = (refl, refl)
is_taken_up all n number From_host s = absurd s
is_taken_up all n number Unanswered s = absurd s

-- an answer acknowledges no more than n items
abbrev pub AnswerOk : ℕ → Message → Type 0
AnswerOk n message = reply_item message.header.exchange (reply_of message.body) ≤ n

pub answer_more : (n m : ℕ) → n ≤ m → (message : Message) → AnswerOk n message → AnswerOk m message
answer_more n m h message p = omega arith

-- what holds of a terminal and the host in every world
pub record Sound (host : HostState) (place : ℕ) (s : TerminalState) : Type 0 where
  -- all that the host may have is a front of what the terminal surely has
  pub front : IsPrefixOf (log (host.settled ++ host.tried) place) (items_of s.settled)
  -- all that the terminal may have acknowledged surely stands in the log
  pub acks : AllByRecursion (AckWithin (length (log host.settled place))) (s.settled ++ s.tried)
  pub sent : AllByRecursion (SentOk (items_of s.settled) (length (log host.settled place))) s.sent
  pub answers : AllByRecursion (AnswerOk (length (log host.settled place))) s.answers

-- item k of a list, from 0, stands at number k + 1
pub stands_from_get : (all : List Item) (n k : ℕ) (item : Item) → slice_get all k ≡ Some item → k ≤ n → StandsAt all n (k + 1) (item ∷ [])
stands_from_get all n k item e h =
    let lt : k < length all = slice_get_within all k item e in
    let is : get_or all k item ≡ item = get_or_from_slice_get all k item item e in
    record {
      front = take k all;
      rest = drop (k + 1) all;
      split = sym (take-append-drop k all) ∙ (ap (λ l. take k all ++ l) (drop_more all k item lt) ∙ ap (λ i. take k all ++ (i ∷ drop (k + 1) all)) is);
      number = omega (arith, length-take k all);
      within = omega arith;
    }

-- the items from k on, so many of them
pub stands_from_take : (all : List Item) (n k limit : ℕ) → k ≤ length all → k ≤ n → StandsAt all n (k + 1) (take limit (drop k all))
stands_from_take all n k limit lt h =
    record {
      front = take k all;
      rest = drop limit (drop k all);
      split = sym (take-append-drop k all) ∙ ap (λ l. take k all ++ l) (sym (take-append-drop limit (drop k all)));
      number = omega (arith, length-take k all);
      within = omega arith;
    }

pub advice_report : (item : Item) → report_of (advice_of item) ≡ Advice item
advice_report (Sale k amount account code) = refl
advice_report (Void k) = refl
advice_report (Cancel k amount) = refl
advice_report (Close p totals) = refl

-- each message that a terminal sends
pub sends_sound : (entries : List TermEntry) (n : ℕ) → AllByRecursion (AckWithin n) entries → (what : Sending) (moment : ℕ) (message : Message) → Sends entries what moment message → SentOk (items_of entries) n message
sends_sound entries n acks (Head repeat) moment message (item, e, few, (created, at, is)) =
    let a : acked entries ≤ n = acked_from_within n 0 entries (omega arith) acks in
    rw is (subst (ReportOk (items_of entries) n (acked entries + 1)) (sym (advice_report item)) (stands_from_get (items_of entries) n (acked entries) item e a))
sends_sound entries n acks (Batch_of limit repeat) moment message (low, high, few, some, (created, at, is)) =
    let a : acked entries ≤ n = acked_from_within n 0 entries (omega arith) acks in
    let b : acked entries ≤ length (items_of entries) = omega (arith, length-drop (acked entries) (items_of entries)) in
    rw is (stands_from_take (items_of entries) n (acked entries) limit b a)
sends_sound entries n acks (Ask k) moment message (p, (created, at, is)) = rw is tt
sends_sound entries n acks (Ask_cancel k) moment message (p, (created, at, is)) = rw is tt
sends_sound entries n acks Diagnose moment message (created, at, is) = rw is tt
sends_sound entries n acks (Report_status wanted) moment message (p, (created, at, is)) = rw is tt

-- what an acknowledgement adds
acknowledged_sound : (entries : List TermEntry) (n m : ℕ) (ack : Acknowledgement) → m ≤ n → AllByRecursion (AckWithin n) (take_acknowledgement entries m ack).added
acknowledged_sound entries n m ack h =
    let P : Taken → Type 0 = λ t. AllByRecursion (AckWithin n) t.added in
    cond_both (not (acknowledges ack)) _ _ P (λ _. tt)
    (λ _. cond_both (nat_le m (acked entries)) _ _ P (λ _. tt)
    (λ _. cond_both (nat_lt (length (items_of entries)) m) _ _ P (λ _. tt) (λ _. cond_both (is_awaited entries m ack) _ _ P (λ _. (h, tt)) (λ _. tt))))

reply_sound : (entries : List TermEntry) (n number : ℕ) (reply : Reply) → reply_item number reply ≤ n → AllByRecursion (AckWithin n) (take_reply entries number reply).added
reply_sound entries n number (Rejects reason) p = tt
reply_sound entries n number (Decides_sale response code) p = tt
reply_sound entries n number (Decides_cancel response) p = tt
reply_sound entries n number (Tells_state last) p = tt
reply_sound entries n number (Gives_plan actions) p = tt
reply_sound entries n number (Gives_part part) p =
    let P : Taken → Type 0 = λ t. AllByRecursion (AckWithin n) t.added in
    cond_both (part_allowed entries part) _ _ P (λ _. (tt, tt)) (λ _. tt)
reply_sound entries n number (Acknowledges ack) p = acknowledged_sound entries n (named_item number ack) ack p
reply_sound entries n number From_terminal p = tt

takes_sound : (entries : List TermEntry) (n : ℕ) (message : Message) → AnswerOk n message → AllByRecursion (AckWithin n) (takes entries (Read message)).added
takes_sound entries n message p =
    let P : Taken → Type 0 = λ t. AllByRecursion (AckWithin n) t.added in
    cond_both (is_for_us entries message) _ _ P (λ _. reply_sound entries n message.header.exchange (reply_of message.body) p) (λ _. tt)

decides_sound : (entries : List TermEntry) (n : ℕ) (answer : Result Handled TermFault) (decision : Decision) (added : List TermEntry) → Decides entries answer decision added → AllByRecursion (AckWithin n) added
decides_sound entries n answer Leave added is = rw is tt
decides_sound entries n answer Complete added (given, e, a, p, is) = rw is (tt, tt)
decides_sound entries n answer Give_up added (given, e, a, p, is) = rw is (tt, tt)
decides_sound entries n answer Decline added (given, e, a, p, is) = rw is (tt, tt)

-- what a terminal does: it acknowledges nothing that is not in the log, and sends its items under their numbers
pub record DoesSoundly (s : TerminalState) (n : ℕ) (added : List TermEntry) (sent : List Message) : Type 0 where
  pub acks : AllByRecursion (AckWithin n) added
  pub messages : AllByRecursion (SentOk (items_of s.settled) n) sent

does_soundly : (s : TerminalState) (n : ℕ) (entry : TermEntry) (added : List TermEntry) (sent : List Message) → AckWithin n entry → added ≡ entry ∷ [] → sent ≡ [] → DoesSoundly s n added sent
does_soundly s n entry added sent p is none = record { acks = rw is (p, tt); messages = rw none tt }

pub terminal_does_sound : (s : TerminalState) (n : ℕ) → AllByRecursion (AckWithin n) s.settled → AllByRecursion (AnswerOk n) s.answers → (action : TerminalAction) (added : List TermEntry) (sent : List Message) → TerminalDoes s action added sent → DoesSoundly s n added sent
terminal_does_sound s n acks answers (Begins amount account) added sent ((lt, is), none) = does_soundly s n _ added sent tt is none
terminal_does_sound s n acks answers (Offline k) added sent ((p, le, is), none) = does_soundly s n _ added sent tt is none
terminal_does_sound s n acks answers (Gives_up k) added sent ((p, is), none) = does_soundly s n _ added sent tt is none
terminal_does_sound s n acks answers (Cancels k) added sent ((p, is), none) = does_soundly s n _ added sent tt is none
terminal_does_sound s n acks answers Closes added sent ((p, is), none) = does_soundly s n _ added sent tt is none
terminal_does_sound s n acks answers (Sends_message what moment) added sent (message, sends, none, is) =
    record { acks = rw none tt; messages = rw is (sends_sound s.settled n acks what moment message sends, tt) }
terminal_does_sound s n acks answers (Takes_answer which decision) added sent (message, decided, at, decides, is, none) =
    let ok = all_at (AnswerOk n) s.answers which message at answers in
    record {
      acks = rw is (all_append (AckWithin n) _ decided (takes_sound s.settled n message ok) (decides_sound s.settled n _ decision decided decides));
      messages = rw none tt;
    }
terminal_does_sound s n acks answers (Hears_foreign received) added sent (foreign, is, none) = record { acks = rw is tt; messages = rw none tt }

-- opened again, some of what was tried stands
pub restarted : (host : HostState) (place : ℕ) (s : TerminalState) (kept : ℕ) (on : Bool) → Sound host place s → Sound host place (record { settled = s.settled ++ take kept s.tried; tried = []; on = on; sent = s.sent; answers = s.answers })
restarted host place s kept on sound =
    let n = length (log host.settled place) in
    let grown = items_grow s.settled (take kept s.tried) in
    record {
      front = prefix_trans _ _ _ sound.front grown;
      acks = rw append-nil (all_kept (AckWithin n) s.settled s.tried kept sound.acks);
      sent = all_weaker _ _ (sent_more _ _ n n grown (omega arith)) s.sent sound.sent;
      answers = sound.answers;
    }
