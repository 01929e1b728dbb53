-- In every world the set in force is one that was published, and it never goes back.
use Rattle.std.proofs.Common.{◌≡◌, ℕ, zero, suc, ◌<◌, ◌≤◌, true, List, [], ◌∷◌, ◌++◌, length, take, drop, Some, sym, ◌∙◌, ap, subst, append_assoc, append-nil, take-append-drop, arith, map, set, Option, None, refl, ⊎_elim, ◌-◌, not}
use Rattle.std.specs.Prelude.{slice_get, nat_le, nat_lt}
use Rattle.std.specs.List.{AllByRecursion}
use Rattle.std.proofs.lemmas.Bool.{cond_both, cases_eq}
use Rattle.std.proofs.lemmas.Option.{same_Some, none-some, slice_get_within}
use Rattle.cap_base.specs.declared.parameters.Row.{Row}
use Rattle.cap_base.specs.declared.item.Item.{Item}
use Rattle.cap_base.specs.declared.item.Item.TheVariants.{Sale, Void, Cancel, Close}
use Rattle.cap_base.specs.declared.codes.DataSet.{DataSet}
use Rattle.cap_base.specs.declared.codes.DataSet.TheVariants.{Aqpr, Mgtp, Strp}
use Rattle.cap_leaf.specs.Date.{DateParts}
use Rattle.cap_mgmt_msgs.specs.declared.body.MgmtBody.{MgmtBody}
use Rattle.cap_msgs.specs.declared.message.Body.{Body}
use Rattle.cap_msgs.specs.declared.message.Message.{Message}
use Rattle.cap_msgs.specs.Received.{Received, Read}
use Rattle.cap_msgs.specs.Report.{Report, Asks_sale, Asks_cancel, Asks_state, Asks_data, Advice, Many, From_host, Unanswered, report_of}
use Rattle.cap_msgs.specs.Reply.{Reply, Rejects, Decides_sale, Decides_cancel, Tells_state, Gives_plan, Gives_part, Acknowledges, From_terminal, reply_of, Acknowledgement, acknowledges, named_item}
use Rattle.cap_entries.specs.Settings.{TerminalSettings, HostSettings}
use Rattle.cap_entries.specs.declared.terminal.TermEntry.{TermEntry}
use Rattle.cap_entries.specs.declared.terminal.TermEntry.TheVariants.{Setup, Begin, Declined, Completed, Voided, Cancelled, Closed, Acked, Part as Part_entry}
use Rattle.cap_entries.specs.declared.host.HostEntry.{HostEntry}
use Rattle.cap_entries.specs.declared.host.HostEntry.TheVariants.{Setup as Host_setup}
use Rattle.cap_entries.specs.Items.{items as items_of}
use Rattle.cap_entries.specs.Acked.{acked}
use Rattle.cap_entries.specs.Allowed.{part_allowed, allowed, all_allowed}
use Rattle.cap_entries.specs.InForce.{version_in_force}
use Rattle.cap_entries.specs.Log.{published, setup_of}
use Rattle.cap_entries.specs.AllowedLaws.{all_allowed_front, all_allowed_back, along, allowed_is}
use Rattle.cap_manager.specs.Manager.{newest_part, answer_status}
use Rattle.cap_host_answers.specs.Answer.{Answered, is_approved, answer_request, answer_data, answer_report}
use Rattle.cap_host_answers.specs.Received.{answer_received, Replies}
use Rattle.cap_terminal_answers.specs.declared.handled.Handled.{Handled}
use Rattle.cap_terminal_answers.specs.declared.handled.TermFault.{TermFault}
use Rattle.cap_terminal_answers.specs.Takes.{Taken, is_awaited, take_acknowledgement, take_reply, is_for_us, takes}
use Rattle.cap_terminal_answers.specs.Does.{Decision, Leave, Complete, Give_up, Decline, Decides}
use Rattle.cap_answering.specs.Steps.{Event, Acts, Interrupted, Restart, Interrupted_restart}
use Rattle.cap_world.specs.World.{TerminalState, World, TerminalAction, Begins, Offline, Gives_up, Cancels, Closes, Sends_message, Takes_answer, Hears_foreign, TerminalDoes, TerminalStep, HostAction, Answers, Answers_foreign, Publishes, HostDoes, delivered, HostStep, Happening, At_terminal, At_host, Step, started, first, Run}
use Rattle.cap_entries.specs.SetUps.{SetUpsMatch}
use Rattle.std.specs.Prelude.{Result}
use Rattle.cap_world.proofs.Named.{all_append, all_front, all_back, all_kept, all_at, all_weaker, delivered_cases, set_cases}
use Rattle.cap_world.proofs.Parties.{RejectedOnly, foreign_is_rejected, rejection_reply}
use Rattle.cap_world.proofs.Steps.{answered_is, setup_settled}
use Rattle.cap_world.specs.Accepted.{approval_of, Accepts}
use Rattle.cap_world.proofs.Lawful.{Lawful, accepted_at, step_lawful, first_lawful}
use Rattle.cap_world.specs.SetsInForce.{EverySetIsPublished, NoSetGoesBack}
use Rattle.cap_world.proofs.Force.{GivenOk, PartOk, EntryPart, message_more, entry_more, SetsOk, sets_ok, set_step, part_rises, version_push}

acknowledgement_parts : (others : List HostEntry) (entries : List TermEntry) (m : ℕ) (ack : Acknowledgement) → AllByRecursion (EntryPart others) (take_acknowledgement entries m ack).added
acknowledgement_parts others entries m ack =
    let P : Taken → Type 0 = λ t. AllByRecursion (EntryPart others) t.added in
    cond_both (not (acknowledges ack)) _ _ P (λ _. tt)
    (λ _. cond_both (nat_le m (acked entries)) _ _ P (λ _. tt)
    (λ _. cond_both (nat_lt (length (items_of entries)) m) _ _ P (λ _. tt) (λ _. cond_both (is_awaited entries m ack) _ _ P (λ _. (tt, tt)) (λ _. tt))))

reply_parts : (others : List HostEntry) (entries : List TermEntry) (number : ℕ) (reply : Reply) → GivenOk others reply → AllByRecursion (EntryPart others) (take_reply entries number reply).added
reply_parts others entries number (Gives_part part) p =
    let P : Taken → Type 0 = λ t. AllByRecursion (EntryPart others) t.added in
    cond_both (part_allowed entries part) _ _ P (λ _. (p, tt)) (λ _. tt)
reply_parts others entries number (Acknowledges ack) p = acknowledgement_parts others entries (named_item number ack) ack
reply_parts others entries number (Rejects reason) p = tt
reply_parts others entries number (Decides_sale response code) p = tt
reply_parts others entries number (Decides_cancel response) p = tt
reply_parts others entries number (Tells_state last) p = tt
reply_parts others entries number (Gives_plan actions) p = tt
reply_parts others entries number From_terminal p = tt

takes_parts : (others : List HostEntry) (entries : List TermEntry) (message : Message) → PartOk others message → AllByRecursion (EntryPart others) (takes entries (Read message)).added
takes_parts others entries message p =
    let P : Taken → Type 0 = λ t. AllByRecursion (EntryPart others) t.added in
    cond_both (is_for_us entries message) _ _ P (λ _. reply_parts others entries message.header.exchange (reply_of message.body) p) (λ _. tt)

decides_parts : (others : List HostEntry) (entries : List TermEntry) (answer : Result Handled TermFault) (decision : Decision) (added : List TermEntry) → Decides entries answer decision added → AllByRecursion (EntryPart others) added
decides_parts others entries answer Leave added is = rw is tt
decides_parts others entries answer Complete added (given, e, a, p, is) = rw is (tt, tt)
decides_parts others entries answer Give_up added (given, e, a, p, is) = rw is (tt, tt)
decides_parts others entries answer Decline added (given, e, a, p, is) = rw is (tt, tt)

pub record PartsTerminal (others : List HostEntry) (s : TerminalState) : Type 0 where
  pub answers : AllByRecursion (PartOk others) s.answers
  pub entries : AllByRecursion (EntryPart others) (s.settled ++ s.tried)

terminal_does_parts : (others : List HostEntry) (s : TerminalState) → PartsTerminal others s → (action : TerminalAction) (added : List TermEntry) (sent : List Message) → TerminalDoes s action added sent → AllByRecursion (EntryPart others) added
terminal_does_parts others s a (Begins amount account) added sent ((lt, is), none) = rw is (tt, tt)
terminal_does_parts others s a (Offline k) added sent ((p, le, is), none) = rw is (tt, tt)
terminal_does_parts others s a (Gives_up k) added sent ((p, is), none) = rw is (tt, tt)
terminal_does_parts others s a (Cancels k) added sent ((p, is), none) = rw is (tt, tt)
terminal_does_parts others s a Closes added sent ((p, is), none) = rw is (tt, tt)
terminal_does_parts others s a (Sends_message what moment) added sent (message, sends, none, is) = rw none tt
terminal_does_parts others s a (Takes_answer which decision) added sent (message, decided, at, decides, is, none) =
    let ok = all_at (PartOk others) s.answers which message at a.answers in
    rw is (all_append (EntryPart others) _ decided (takes_parts others s.settled message ok) (decides_parts others s.settled _ decision decided decides))
terminal_does_parts others s a (Hears_foreign received) added sent (foreign, is, none) = rw is tt

terminal_step_parts : (others : List HostEntry) (s new : TerminalState) (event : Event TerminalAction) → PartsTerminal others s → TerminalStep s event new → PartsTerminal others new
terminal_step_parts others s new (Acts action) a (added, sent, on, does, is) =
    subst (PartsTerminal others) (sym is) (record {
      answers = a.answers;
      entries = rw append-nil (all_append (EntryPart others) s.settled added (all_front (EntryPart others) s.settled s.tried a.entries) (terminal_does_parts others s a action added sent does));
    })
terminal_step_parts others s new (Interrupted action) a (added, sent, on, does, is) =
    subst (PartsTerminal others) (sym is) (record {
      answers = a.answers;
      entries = all_append (EntryPart others) s.settled added (all_front (EntryPart others) s.settled s.tried a.entries) (terminal_does_parts others s a action added sent does);
    })
terminal_step_parts others s new (Restart kept) a is =
    subst (PartsTerminal others) (sym is) (record { answers = a.answers; entries = rw append-nil (all_kept (EntryPart others) s.settled s.tried kept a.entries) })
terminal_step_parts others s new (Interrupted_restart (Some kept)) a is =
    subst (PartsTerminal others) (sym is) (record { answers = a.answers; entries = rw append-nil (all_kept (EntryPart others) s.settled s.tried kept a.entries) })
terminal_step_parts others s new (Interrupted_restart None) a is =
    subst (PartsTerminal others) (sym is) (record { answers = a.answers; entries = a.entries })

abbrev SomePart : List HostEntry → Option Body → Type 0
SomePart others None = Unit {0}
SomePart others (Some body) = GivenOk others (reply_of body)

request_part : (others : List HostEntry) (setup : HostSettings) (n amount : ℕ) (account : List ℕ) → SomePart others (answer_request setup n amount account).reply
request_part others setup n amount account =
    let P : Answered → Type 0 = λ a. SomePart others a.reply in
    cond_both (is_approved setup amount account) _ _ P (λ _. tt) (λ _. tt)

newest_given : (others : List HostEntry) (rows : Option (List Row)) (in_force staged parts : ℕ) → slice_get (published others) (length (published others) - 1) ≡ rows → SomePart others (answer_data (newest_part (length (published others)) rows in_force staged parts)).reply
newest_given others None in_force staged parts e = tt
newest_given others (Some rows) in_force staged parts e =
    let P : Option MgmtBody → Type 0 = λ o. SomePart others (answer_data o).reply in
    let some : length (published others) - 1 < length (published others) = slice_get_within (published others) (length (published others) - 1) rows e in
    cond_both (nat_le (length (published others)) in_force) _ _ P (λ _. tt)
    (λ _. record { set = rows; version = omega arith; there = e; count = refl; rows_are = refl })

status_given : (others : List HostEntry) (start : DateParts) (poll : ℕ) (wanted : DataSet) (in_force staged parts : ℕ) → SomePart others (answer_data (answer_status (published others) start poll wanted in_force staged parts)).reply
status_given others start poll Aqpr in_force staged parts = newest_given others _ in_force staged parts refl
status_given others start poll Mgtp in_force staged parts = tt
status_given others start poll Strp in_force staged parts = tt

item_given : (others : List HostEntry) (item : Item) → SomePart others (Some (approval_of item))
item_given others (Sale k amount account code) = tt
item_given others (Void k) = tt
item_given others (Cancel k amount) = tt
item_given others (Close p sums) = tt

answer_part : (others : List HostEntry) (place n : ℕ) (report : Report) → Accepts n report (answer_report others place n report).reply → SomePart others (answer_report others place n report).reply
answer_part others place n (Asks_sale amount account) a = request_part others (setup_of others) n amount account
answer_part others place n (Advice item) a = subst (SomePart others) (sym a) (item_given others item)
answer_part others place n (Many items) a = subst (SomePart others) (sym a) tt
answer_part others place n (Asks_data wanted in_force staged parts) a = status_given others (setup_of others).start (setup_of others).poll wanted in_force staged parts
answer_part others place n (Asks_cancel amount) a = tt
answer_part others place n Asks_state a = tt
answer_part others place n From_host a = tt
answer_part others place n Unanswered a = tt

replies_part : (others entries : List HostEntry) (moment : ℕ) (received : Received) (reply : Option Body) (messages : List Message) → SomePart others reply → Replies entries moment received reply messages → AllByRecursion (PartOk others) messages
replies_part others entries moment received None messages p is = rw is tt
replies_part others entries moment received (Some body) messages p (created, at, is) = rw is (p, tt)

rejection_part : (others : List HostEntry) (reply : Option Body) → RejectedOnly reply → SomePart others reply
rejection_part others None p = tt
rejection_part others (Some body) (management, refused, is) =
    let none : reply_of body ≡ Rejects refused.reason = ap reply_of is ∙ rejection_reply management refused in
    subst (GivenOk others) (sym none) tt

host_does_parts : (host : HostSettings) (all : List TerminalSettings) (w : World) → Lawful host all w → (action : HostAction) (added : List HostEntry) (receiver : ℕ) (replies : List Message) → HostDoes w action added receiver replies → AllByRecursion (PartOk w.host.settled) replies
host_does_parts host all w l (Answers terminal which moment) added receiver replies (s, message, at, sent, is, to, back) =
    let same = answered_is host all w l.inv w.host.settled (setup_settled host all w l.inv) terminal s which message at sent in
    let back' = subst (λ (x : Answered). Replies w.host.settled moment (Read message) x.reply replies) same back in
    replies_part w.host.settled w.host.settled moment (Read message) _ replies (answer_part w.host.settled terminal message.header.exchange (report_of message.body)
    (accepted_at host all w l terminal s at which message sent w.host.settled (0, sym (append-nil _)))) back'
host_does_parts host all w l (Answers_foreign received moment) added receiver replies (foreign, is, to, back) =
    let r = foreign_is_rejected w.host.settled received foreign in
    replies_part w.host.settled w.host.settled moment received (answer_received w.host.settled received).reply replies (rejection_part w.host.settled (answer_received w.host.settled received).reply r.reply) back
host_does_parts host all w l (Publishes rows) added receiver replies (lt, is, none) = rw none tt

pub record Parts (host : HostSettings) (all : List TerminalSettings) (w : World) : Type 0 where
  pub lawful : Lawful host all w
  pub terminals : (place : ℕ) (s : TerminalState) → slice_get w.terminals place ≡ Some s → PartsTerminal w.host.settled s

parts_more : (others more : List HostEntry) (s : TerminalState) → PartsTerminal others s → PartsTerminal (others ++ more) s
parts_more others more s p =
    record {
      answers = all_weaker _ _ (message_more others more) s.answers p.answers;
      entries = all_weaker _ _ (entry_more others more) (s.settled ++ s.tried) p.entries;
    }

host_terminals_parts : (host : HostSettings) (all : List TerminalSettings) (w new : World) (event : Event HostAction) → Parts host all w → HostStep w event new → (place : ℕ) (s : TerminalState) → slice_get new.terminals place ≡ Some s → PartsTerminal new.host.settled s
host_terminals_parts host all w new (Acts action) p (added, receiver, replies, on, does, is) place t at =
    let (s, was, cases) = delivered_cases w.terminals receiver place replies t (rw is at at) in
    let old = p.terminals place s was in
    let good = host_does_parts host all w p.lawful action added receiver replies does in
    let host_is : new.host.settled ≡ w.host.settled ++ added = ap (λ (v : World). v.host.settled) is in
    rw host_is (⊎_elim
    (λ (same, is'). subst (PartsTerminal (w.host.settled ++ added)) (sym is') (parts_more w.host.settled added _ (record { answers = all_append (PartOk w.host.settled) s.answers replies old.answers good; entries = old.entries })))
    (λ is'. subst (PartsTerminal (w.host.settled ++ added)) (sym is') (parts_more w.host.settled added s old))
    cases)
host_terminals_parts host all w new (Interrupted action) p (added, receiver, replies, on, does, is) place t at =
    let host_is : new.host.settled ≡ w.host.settled = ap (λ (v : World). v.host.settled) is in
    rw host_is (p.terminals place t (rw is at at))
host_terminals_parts host all w new (Restart kept) p is place t at =
    let host_is : new.host.settled ≡ w.host.settled ++ take kept w.host.tried = ap (λ (v : World). v.host.settled) is in
    rw host_is (parts_more w.host.settled (take kept w.host.tried) t (p.terminals place t (rw is at at)))
host_terminals_parts host all w new (Interrupted_restart (Some kept)) p is place t at =
    let host_is : new.host.settled ≡ w.host.settled ++ take kept w.host.tried = ap (λ (v : World). v.host.settled) is in
    rw host_is (parts_more w.host.settled (take kept w.host.tried) t (p.terminals place t (rw is at at)))
host_terminals_parts host all w new (Interrupted_restart None) p is place t at =
    let host_is : new.host.settled ≡ w.host.settled = ap (λ (v : World). v.host.settled) is in
    rw host_is (p.terminals place t (rw is at at))

step_parts : (host : HostSettings) (all : List TerminalSettings) (w new : World) (happening : Happening) → Parts host all w → Step w happening new → Parts host all new
step_parts host all w new (At_host event) p step = record { lawful = step_lawful host all w new (At_host event) p.lawful step; terminals = host_terminals_parts host all w new event p step }
step_parts host all w new (At_terminal place event) p (before, after, at, step, is) =
    let host_is : new.host.settled ≡ w.host.settled = ap (λ (v : World). v.host.settled) is in
    record {
      lawful = step_lawful host all w new (At_terminal place event) p.lawful (before, after, at, step, is);
      terminals = λ other t here.
          rw host_is (⊎_elim
          (λ (same, is'). subst (PartsTerminal w.host.settled) (sym is') (terminal_step_parts w.host.settled before after event (p.terminals place before at) step))
          (λ was. p.terminals other t was)
          (set_cases w.terminals place other after t (rw is at here)));
    }

run_parts : (host : HostSettings) (all : List TerminalSettings) (w new : World) (happenings : List Happening) → Parts host all w → Run w happenings new → Parts host all new
run_parts host all w new [] p is = subst (Parts host all) (sym is) p
run_parts host all w new (happening ∷ happenings) p (next, step, run) = run_parts host all next new happenings (step_parts host all w next happening p step) run

started_parts : (others : List HostEntry) (setups : List TerminalSettings) (place : ℕ) (s : TerminalState) → slice_get (map started setups) place ≡ Some s → PartsTerminal others s
started_parts others [] place s e = absurd (none-some s e)
started_parts others (setup ∷ setups) zero s e = subst (PartsTerminal others) (same_Some _ _ e) (record { answers = tt; entries = (tt, tt) })
started_parts others (setup ∷ setups) (suc place) s e = started_parts others setups place s e

first_parts : (host : HostSettings) (setups : List TerminalSettings) → SetUpsMatch host setups → Parts host setups (first host setups)
first_parts host setups match = record { lawful = first_lawful host setups match; terminals = started_parts (Host_setup host ∷ []) setups }

legal_kept : (s : TerminalState) (kept : ℕ) → all_allowed [] (s.settled ++ s.tried) ≡ true → all_allowed [] (s.settled ++ take kept s.tried) ≡ true
legal_kept s kept legal =
    let whole : all_allowed [] ((s.settled ++ take kept s.tried) ++ drop kept s.tried) ≡ true = rw (append_assoc, take-append-drop) legal in
    all_allowed_front [] (s.settled ++ take kept s.tried) (drop kept s.tried) whole

pub every_set_is_published : EverySetIsPublished
every_set_is_published host setups happenings w match run place s at entries (kept, is) others (held, are) =
    let p = run_parts host setups (first host setups) w happenings (first_parts host setups match) run in
    let t = p.terminals place s at in
    let legal = (p.lawful.terminals place s at).legal in
    let more = parts_more w.host.settled (take held w.host.tried) s t in
    rw (is, are) (sets_ok (w.host.settled ++ take held w.host.tried) (s.settled ++ take kept s.tried)
    (all_kept (EntryPart (w.host.settled ++ take held w.host.tried)) s.settled s.tried kept more.entries) (legal_kept s kept legal)).in_force

-- the version in force only rises
version_rises : (others : List HostEntry) (before : List TermEntry) (entry : TermEntry) → SetsOk others before → EntryPart others entry → allowed before entry ≡ true → version_in_force before ≤ version_in_force (before ++ entry ∷ [])
version_rises others before (Part_entry part) ok of_set a = part_rises others before part ok of_set (allowed_is before (Part_entry part) refl a)
version_rises others before (Setup setup) ok of_set a = omega (arith, version_push before 0 (Setup setup))
version_rises others before (Begin k amount account) ok of_set a = omega (arith, version_push before 0 (Begin k amount account))
version_rises others before (Declined k) ok of_set a = omega (arith, version_push before 0 (Declined k))
version_rises others before (Completed k code) ok of_set a = omega (arith, version_push before 0 (Completed k code))
version_rises others before (Voided k) ok of_set a = omega (arith, version_push before 0 (Voided k))
version_rises others before (Cancelled k) ok of_set a = omega (arith, version_push before 0 (Cancelled k))
version_rises others before (Closed k) ok of_set a = omega (arith, version_push before 0 (Closed k))
version_rises others before (Acked k) ok of_set a = omega (arith, version_push before 0 (Acked k))

record Risen (others : List HostEntry) (start before : List TermEntry) : Type 0 where
  ok : SetsOk others before
  risen : version_in_force start ≤ version_in_force before

risen : (others : List HostEntry) (start more : List TermEntry) → AllByRecursion (EntryPart others) (start ++ more) → all_allowed [] (start ++ more) ≡ true → version_in_force start ≤ version_in_force (start ++ more)
risen others start more parts legal =
    let legal_start = all_allowed_front [] start more legal in
    let legal_more = all_allowed_back [] start more legal in
    let ok = sets_ok others start (all_front (EntryPart others) start more parts) legal_start in
    let grow = along (λ before. AllByRecursion (EntryPart others) before → Risen others start before)
    (λ before entry p a all.
    let r = p (all_front (EntryPart others) before (entry ∷ []) all) in
    let e = (all_back (EntryPart others) before (entry ∷ []) all).0 in
    record { ok = set_step others before entry r.ok e a; risen = omega (arith, r.risen, version_rises others before entry r.ok e a) })
    start more (λ all. record { ok = ok; risen = omega arith }) legal_more in
    (grow parts).risen

-- what is settled stays
settled_step : (s new : TerminalState) (event : Event TerminalAction) → TerminalStep s event new → (more : List TermEntry) × (new.settled ≡ s.settled ++ more)
settled_step s new (Acts action) (added, sent, on, does, is) = (added, ap (λ (t : TerminalState). t.settled) is)
settled_step s new (Interrupted action) (added, sent, on, does, is) = ([], ap (λ (t : TerminalState). t.settled) is ∙ sym (append-nil _))
settled_step s new (Restart kept) is = (take kept s.tried, ap (λ (t : TerminalState). t.settled) is)
settled_step s new (Interrupted_restart (Some kept)) is = (take kept s.tried, ap (λ (t : TerminalState). t.settled) is)
settled_step s new (Interrupted_restart None) is = ([], ap (λ (t : TerminalState). t.settled) is ∙ sym (append-nil _))

delivered_settled : (terminals : List TerminalState) (receiver place : ℕ) (messages : List Message) (s : TerminalState) → slice_get terminals place ≡ Some s → (t : TerminalState) × (slice_get (delivered terminals receiver messages) place ≡ Some t) × (t.settled ≡ s.settled)
delivered_settled [] receiver place messages s e = absurd (none-some s e)
delivered_settled (u ∷ terminals) zero zero messages s e = (_, refl, ap (λ (t : TerminalState). t.settled) (same_Some u s e))
delivered_settled (u ∷ terminals) zero (suc place) messages s e = (s, e, refl)
delivered_settled (u ∷ terminals) (suc receiver) zero messages s e = (s, e, refl)
delivered_settled (u ∷ terminals) (suc receiver) (suc place) messages s e = delivered_settled terminals receiver place messages s e

set_there : (terminals : List TerminalState) (i : ℕ) (v old : TerminalState) → slice_get terminals i ≡ Some old → slice_get (set terminals i v) i ≡ Some v
set_there [] i v old e = absurd (none-some old e)
set_there (u ∷ terminals) zero v old e = refl
set_there (u ∷ terminals) (suc i) v old e = set_there terminals i v old e

set_elsewhere : (terminals : List TerminalState) (i place : ℕ) (v : TerminalState) → (place ≡ i → ⊥) → slice_get (set terminals i v) place ≡ slice_get terminals place
set_elsewhere [] i place v ne = refl
set_elsewhere (u ∷ terminals) zero zero v ne = absurd (ne refl)
set_elsewhere (u ∷ terminals) zero (suc place) v ne = refl
set_elsewhere (u ∷ terminals) (suc i) zero v ne = refl
set_elsewhere (u ∷ terminals) (suc i) (suc place) v ne = set_elsewhere terminals i place v (λ e. ne (ap suc e))

-- a terminal's settled entries after a step
abbrev Grows : World → ℕ → TerminalState → Type 0
Grows new place s = (t : TerminalState) × (slice_get new.terminals place ≡ Some t) × ((more : List TermEntry) × (t.settled ≡ s.settled ++ more))

stays : (w new : World) (place : ℕ) (s : TerminalState) → new.terminals ≡ w.terminals → slice_get w.terminals place ≡ Some s → Grows new place s
stays w new place s is at = (s, rw is at, ([], sym (append-nil _)))

host_step_grows : (w new : World) (event : Event HostAction) → HostStep w event new → (place : ℕ) (s : TerminalState) → slice_get w.terminals place ≡ Some s → Grows new place s
host_step_grows w new (Acts action) (added, receiver, replies, on, does, is) place s at =
    let (t, there, same) = delivered_settled w.terminals receiver place replies s at in
    (t, rw is there, ([], same ∙ sym (append-nil _)))
host_step_grows w new (Interrupted action) (added, receiver, replies, on, does, is) place s at = stays w new place s (ap (λ (v : World). v.terminals) is) at
host_step_grows w new (Restart kept) is place s at = stays w new place s (ap (λ (v : World). v.terminals) is) at
host_step_grows w new (Interrupted_restart (Some kept)) is place s at = stays w new place s (ap (λ (v : World). v.terminals) is) at
host_step_grows w new (Interrupted_restart None) is place s at = stays w new place s (ap (λ (v : World). v.terminals) is) at

step_grows : (w new : World) (happening : Happening) → Step w happening new → (place : ℕ) (s : TerminalState) → slice_get w.terminals place ≡ Some s → Grows new place s
step_grows w new (At_host event) step place s at = host_step_grows w new event step place s at
step_grows w new (At_terminal other event) (before, after, here, step, is) place s at =
    ⊎_elim
    (λ (same : place ≡ other).
    let at' : slice_get w.terminals other ≡ Some s = subst (λ k. slice_get w.terminals k ≡ Some s) same at in
    let was : s ≡ before = same_Some s before (sym at' ∙ here) in
    let (more, grown) = settled_step before after event step in
    (after, rw (is, same) (set_there w.terminals other after before here), (more, grown ∙ ap (λ (t : TerminalState). t.settled ++ more) (sym was))))
    (λ ne. (s, rw is (set_elsewhere w.terminals other place after ne ∙ at), ([], sym (append-nil _))))
    (cases_eq place other)

run_grows : (w new : World) (happenings : List Happening) → Run w happenings new → (place : ℕ) (s : TerminalState) → slice_get w.terminals place ≡ Some s → Grows new place s
run_grows w new [] is place s at = (s, rw is at, ([], sym (append-nil _)))
run_grows w new (happening ∷ happenings) (next, step, run) place s at =
    let (t, there, (more, grown)) = step_grows w next happening step place s at in
    let (u, there', (more', grown')) = run_grows next new happenings run place t there in
    (u, there', (more ++ more', grown' ∙ (ap (λ l. l ++ more') grown ∙ append_assoc s.settled more more')))

pub no_set_goes_back : NoSetGoesBack
no_set_goes_back host setups earlier later v w match run_v run_w place s t at_s at_t entries (kept, is) =
    let p_v = run_parts host setups (first host setups) v earlier (first_parts host setups match) run_v in
    let p = run_parts host setups v w later p_v run_w in
    let (u, at_u, (more, grown)) = run_grows v w later run_w place s at_s in
    let same : u ≡ t = same_Some u t (sym at_u ∙ at_t) in
    let settled : t.settled ≡ s.settled ++ more = ap (λ (x : TerminalState). x.settled) (sym same) ∙ grown in
    let whole : entries ≡ s.settled ++ (more ++ take kept t.tried) = is ∙ (ap (λ l. l ++ take kept t.tried) settled ∙ append_assoc s.settled more (take kept t.tried)) in
    let legal : all_allowed [] entries ≡ true = rw is (legal_kept t kept (p.lawful.terminals place t at_t).legal) in
    let parts : AllByRecursion (EntryPart w.host.settled) entries = rw is (all_kept (EntryPart w.host.settled) t.settled t.tried kept (p.terminals place t at_t).entries) in
    rw whole (risen w.host.settled s.settled (more ++ take kept t.tried) (rw whole at parts) (rw whole at legal))
