-- Journals stay legal, and what a terminal reports is accepted in every world.
use Rattle.std.proofs.Common.{◌≡◌, ℕ, ◌+◌, ◌≤◌, Bool, true, List, [], ◌∷◌, ◌++◌, length, take, drop, Some, sym, ◌∙◌, ap, subst, append_assoc, append-nil, take-append-drop, arith, false, Option, None, refl, ⊎_elim, eq-eqb, leb-false, not, le-leb, ltb-true, ltb-false, lt-ltb}
use Rattle.std.specs.Prelude.{slice_get, nat_le, nat_lt, count_by}
use Rattle.std.specs.List.{AllByRecursion}
use Rattle.std.proofs.lemmas.Bool.{cond_both, and_from}
use Rattle.cap_base.specs.declared.item.Item.{Item}
use Rattle.cap_base.specs.declared.item.Item.TheVariants.{Sale, Void, Cancel, Close}
use Rattle.cap_base.specs.Captured.{totals}
use Rattle.cap_mgmt_msgs.specs.declared.body.MgmtBody.{MgmtBody}
use Rattle.cap_mgmt_msgs.specs.declared.body.MgmtBody.TheVariants.{Status, Plan, Part as Part_body, ManagementRejection}
use Rattle.cap_msgs.specs.declared.message.Body.{Body}
use Rattle.cap_msgs.specs.declared.message.Message.{Message}
use Rattle.cap_msgs.specs.Received.{Received, Read}
use Rattle.cap_msgs.specs.Report.{Report, Asks_sale, Asks_cancel, Asks_state, Asks_data, Advice, Many, From_host, Unanswered, report_of}
use Rattle.cap_msgs.specs.Reply.{Reply, Rejects, Decides_sale, Decides_cancel, Tells_state, Gives_plan, Gives_part, Acknowledges, From_terminal, reply_of, Acknowledgement, Of_end, Of_cancel, Of_close, Of_items, acknowledges, agrees, named_item, reply_item, reply_agrees}
use Rattle.cap_entries.specs.Settings.{TerminalSettings, HostSettings, is_terminal_settings}
use Rattle.cap_entries.specs.declared.terminal.TermEntry.{TermEntry}
use Rattle.cap_entries.specs.declared.terminal.TermEntry.TheVariants.{Setup, Begin, Declined, Completed, Voided, Acked, Part as Part_entry}
use Rattle.cap_entries.specs.declared.host.HostEntry.{HostEntry}
use Rattle.cap_entries.specs.Entry.{is_any_begin, max_of}
use Rattle.cap_entries.specs.Items.{items as items_of}
use Rattle.cap_entries.specs.Acked.{acked}
use Rattle.cap_entries.specs.Allowed.{part_allowed, allowed_after, allowed, all_allowed}
use Rattle.cap_entries.specs.Log.{log, published, setup_of}
use Rattle.cap_entries.specs.Fronts.{IsPrefixOf, prefix_refl, prefix_trans, prefix_length}
use Rattle.cap_entries.specs.ItemsLaws.{items_grow}
use Rattle.cap_entries.specs.LogLaws.{log_grow, log_kept}
use Rattle.cap_entries.specs.AllowedLaws.{all_allowed-append, all_allowed_front}
use Rattle.cap_manager.specs.Manager.{answer_status}
use Rattle.cap_host_answers.specs.Answer.{Answered, is_approved, answer_request, answer_data, answer_report, answer_of}
use Rattle.cap_host_answers.specs.Received.{answer_received, Replies}
use Rattle.cap_sale.specs.declared.response.AuthResponse.{AuthResponse}
use Rattle.cap_terminal_answers.specs.declared.handled.Handled.{Handled}
use Rattle.cap_terminal_answers.specs.declared.handled.Handled.TheVariants.{Authorisation}
use Rattle.cap_terminal_answers.specs.declared.handled.TermFault.{TermFault}
use Rattle.cap_terminal_answers.specs.Takes.{Taken, is_awaited, acked_answer, take_acknowledgement, take_reply, is_for_us, takes}
use Rattle.cap_terminal_answers.specs.Does.{offline_code, Decision, Leave, Complete, Give_up, Decline, Decides}
use Rattle.cap_answering.specs.Steps.{Event, Acts, Interrupted, Restart, Interrupted_restart}
use Rattle.cap_world.specs.World.{TerminalState, World, TerminalAction, Begins, Offline, Gives_up, Cancels, Closes, Sends_message, Takes_answer, Hears_foreign, TerminalDoes, TerminalStep, HostAction, Answers, Answers_foreign, Publishes, HostDoes, HostStep, Happening, At_terminal, At_host, Step, first, Run, May}
use Rattle.cap_entries.specs.SetUps.{SetUpsMatch}
use Rattle.std.specs.Prelude.{Result, Ok}
use Rattle.cap_world.proofs.Named.{all_append, all_at, delivered_cases, set_cases, started_cases, setup_kept}
use Rattle.cap_world.proofs.Sound.{AnswerOk, answer_more, sent_more}
use Rattle.cap_world.proofs.Parties.{RejectedOnly, foreign_is_rejected, rejection_reply}
use Rattle.cap_world.proofs.Steps.{Invariant, step_sound, first_sound, sent_ok, answered_is, setup_settled}
use Rattle.cap_plain.specs.LegalLaws.{totals_from, items_fit}
use Rattle.cap_world.specs.Accepted.{approval_of, Accepts, Expected, EveryAdviceIsAccepted, EveryAnswerIsExpected}
use Rattle.cap_world.proofs.Accept.{answer_accepted}

-- an answer to a reconciliation request agrees
abbrev pub IsAgreeing : Message → Type 0
IsAgreeing message = reply_agrees (reply_of message.body) ≡ true

abbrev pub SomeAgreeing : Option Body → Type 0
SomeAgreeing None = Unit {0}
SomeAgreeing (Some body) = reply_agrees (reply_of body) ≡ true

-- a journal that begins with its set-up
pub record SetUp (entries : List TermEntry) : Type 0 where
  pub settings : TerminalSettings
  pub rest : List TermEntry
  pub is : entries ≡ Setup settings ∷ rest

pub record LawfulTerminal (s : TerminalState) : Type 0 where
  pub legal : all_allowed [] (s.settled ++ s.tried) ≡ true
  pub setup : SetUp s.settled
  pub agreeing : AllByRecursion IsAgreeing s.answers

pub setup_more : (entries more : List TermEntry) → SetUp entries → SetUp (entries ++ more)
setup_more entries more u = record { settings = u.settings; rest = u.rest ++ more; is = ap (λ l. l ++ more) u.is }

allowed_from : (entries : List TermEntry) (entry : TermEntry) → SetUp entries → allowed_after entries entry ≡ true → allowed entries entry ≡ true
allowed_from entries entry u e =
    let P : List TermEntry → Type 0 = λ l. allowed_after l entry ≡ true → allowed l entry ≡ true in
    subst P (sym u.is) (λ h. h) e

one_allowed : (entries : List TermEntry) (entry : TermEntry) (added : List TermEntry) → allowed entries entry ≡ true → added ≡ entry ∷ [] → all_allowed entries added ≡ true
one_allowed entries entry added ok is = rw is (and_from _ _ ok refl)

acknowledgement_legal : (entries : List TermEntry) (m : ℕ) (ack : Acknowledgement) → SetUp entries → all_allowed entries (take_acknowledgement entries m ack).added ≡ true
acknowledgement_legal entries m ack u =
    let P : Taken → Type 0 = λ t. all_allowed entries t.added ≡ true in
    cond_both (not (acknowledges ack)) _ _ P (λ _. refl)
    (λ _. cond_both (nat_le m (acked entries)) _ _ P (λ _. refl)
    (λ above. cond_both (nat_lt (length (items_of entries)) m) _ _ P (λ _. refl)
    (λ within. cond_both (is_awaited entries m ack) _ _ P
    (λ _. and_from _ _ (allowed_from entries (Acked m) u (and_from _ _ (lt-ltb (acked entries) m (leb-false m (acked entries) above)) (le-leb m (length (items_of entries)) (ltb-false (length (items_of entries)) m within)))) refl)
    (λ _. refl))))

reply_legal : (entries : List TermEntry) (number : ℕ) (reply : Reply) → SetUp entries → all_allowed entries (take_reply entries number reply).added ≡ true
reply_legal entries number (Gives_part part) u =
    let P : Taken → Type 0 = λ t. all_allowed entries t.added ≡ true in
    cond_both (part_allowed entries part) _ _ P (λ ok. and_from _ _ (allowed_from entries (Part_entry part) u ok) refl) (λ _. refl)
reply_legal entries number (Acknowledges ack) u = acknowledgement_legal entries (named_item number ack) ack u
reply_legal entries number (Rejects reason) u = refl
reply_legal entries number (Decides_sale response code) u = refl
reply_legal entries number (Decides_cancel response) u = refl
reply_legal entries number (Tells_state last) u = refl
reply_legal entries number (Gives_plan actions) u = refl
reply_legal entries number From_terminal u = refl

takes_legal : (entries : List TermEntry) (message : Message) → SetUp entries → all_allowed entries (takes entries (Read message)).added ≡ true
takes_legal entries message u =
    let P : Taken → Type 0 = λ t. all_allowed entries t.added ≡ true in
    cond_both (is_for_us entries message) _ _ P (λ _. reply_legal entries message.header.exchange (reply_of message.body) u) (λ _. refl)

-- where the answer is a decision on a sale, nothing else is added, and the message is that decision
pub record DecisionTaken (entries : List TermEntry) (message : Message) (given : AuthResponse) : Type 0 where
  pub added : (takes entries (Read message)).added ≡ []
  pub number : message.header.exchange ≡ given.n
  pub reply : reply_of message.body ≡ Decides_sale given.response given.code

record ReplyDecided (number : ℕ) (reply : Reply) (given : AuthResponse) (taken : Taken) : Type 0 where
  added : taken.added ≡ []
  number_is : number ≡ given.n
  reply_is : reply ≡ Decides_sale given.response given.code

acked_is_no_decision : (m : ℕ) (ack : Acknowledgement) (given : AuthResponse) → acked_answer m ack ≡ Authorisation given → ⊥
acked_is_no_decision m (Of_end response) given e = cc
acked_is_no_decision m (Of_cancel response) given e = cc
acked_is_no_decision m (Of_close response p sums) given e = cc
acked_is_no_decision m (Of_items response last) given e = cc

ok_same : (a b : Handled) → (let x : Result Handled TermFault = Ok a in x) ≡ Ok b → a ≡ b
ok_same a b e = cc

reply_decided : (entries : List TermEntry) (number : ℕ) (reply : Reply) (given : AuthResponse) → (take_reply entries number reply).answer ≡ Ok (Authorisation given) → ReplyDecided number reply given (take_reply entries number reply)
reply_decided entries number (Decides_sale response code) given e =
    let same : record { n = number; response = response; code = code } ≡ given = cc in
    record { added = refl; number_is = ap (λ (g : AuthResponse). g.n) same; reply_is = ap (λ (g : AuthResponse). Decides_sale g.response g.code) same }
reply_decided entries number (Gives_part part) given e =
    let P : Taken → Type 0 = λ t. t.answer ≡ Ok (Authorisation given) → ReplyDecided number (Gives_part part) given t in
    cond_both (part_allowed entries part) _ _ P (λ _. λ h. absurd (let no' : ⊥ = cc in no')) (λ _. λ h. absurd (let no' : ⊥ = cc in no')) e
reply_decided entries number (Acknowledges ack) given e =
    let m = named_item number ack in
    let P : Taken → Type 0 = λ t. t.answer ≡ Ok (Authorisation given) → ReplyDecided number (Acknowledges ack) given t in
    cond_both (not (acknowledges ack)) _ _ P (λ _. λ h. absurd (let no' : ⊥ = cc in no'))
    (λ _. cond_both (nat_le m (acked entries)) _ _ P (λ _. λ h. absurd (let no' : ⊥ = cc in no'))
    (λ _. cond_both (nat_lt (length (items_of entries)) m) _ _ P (λ _. λ h. absurd (let no' : ⊥ = cc in no'))
    (λ _. cond_both (is_awaited entries m ack) _ _ P
    (λ _. λ h. absurd (acked_is_no_decision m ack given (ok_same _ _ h)))
    (λ _. λ h. absurd (let no' : ⊥ = cc in no'))))) e
reply_decided entries number (Rejects reason) given e = absurd (let no' : ⊥ = cc in no')
reply_decided entries number (Decides_cancel response) given e = absurd (let no' : ⊥ = cc in no')
reply_decided entries number (Tells_state last) given e = absurd (let no' : ⊥ = cc in no')
reply_decided entries number (Gives_plan actions) given e = absurd (let no' : ⊥ = cc in no')
reply_decided entries number From_terminal given e = absurd (let no' : ⊥ = cc in no')

pub decision_taken : (entries : List TermEntry) (message : Message) (given : AuthResponse) → (takes entries (Read message)).answer ≡ Ok (Authorisation given) → DecisionTaken entries message given
decision_taken entries message given e =
    let P : Taken → Type 0 = λ t. t.answer ≡ Ok (Authorisation given) → ReplyDecided message.header.exchange (reply_of message.body) given t in
    let d = cond_both (is_for_us entries message) _ _ P (λ _. reply_decided entries message.header.exchange (reply_of message.body) given) (λ _. λ h. absurd (let no' : ⊥ = cc in no')) e in
    record { added = d.added; number = d.number_is; reply = d.reply_is }

pub decided_legal : (entries : List TermEntry) (message : Message) (decision : Decision) (decided : List TermEntry) → SetUp entries → Decides entries (takes entries (Read message)).answer decision decided → all_allowed entries ((takes entries (Read message)).added ++ decided) ≡ true
decided_legal entries message Leave decided u is = rw (is, append-nil) (takes_legal entries message u)
decided_legal entries message Complete decided u (given, e, a, p, is) =
    rw ((decision_taken entries message given e).added, is) (and_from _ _ (allowed_from entries (Completed given.n given.code) u p) refl)
decided_legal entries message Give_up decided u (given, e, a, p, is) =
    rw ((decision_taken entries message given e).added, is) (and_from _ _ (allowed_from entries (Voided given.n) u p) refl)
decided_legal entries message Decline decided u (given, e, a, p, is) =
    rw ((decision_taken entries message given e).added, is) (and_from _ _ (allowed_from entries (Declined given.n) u p) refl)

pub terminal_does_legal : (s : TerminalState) → SetUp s.settled → (action : TerminalAction) (added : List TermEntry) (sent : List Message) → TerminalDoes s action added sent → all_allowed s.settled added ≡ true
terminal_does_legal s u (Begins amount account) added sent ((lt, is), none) =
    let n = count_by is_any_begin s.settled in
    one_allowed s.settled (Begin (n + 1) amount account) added
    (allowed_from s.settled (Begin (n + 1) amount account) u (and_from _ _ (eq-eqb (n + 1) (n + 1) refl) (le-leb (n + 1) (max_of s.settled) (omega (arith, lt))))) is
terminal_does_legal s u (Offline k) added sent ((p, le, is), none) = one_allowed s.settled _ added (allowed_from s.settled (Completed k offline_code) u p) is
terminal_does_legal s u (Gives_up k) added sent ((p, is), none) = one_allowed s.settled _ added (allowed_from s.settled (Voided k) u p) is
terminal_does_legal s u (Cancels k) added sent ((p, is), none) = one_allowed s.settled _ added p is
terminal_does_legal s u Closes added sent ((p, is), none) = one_allowed s.settled _ added p is
terminal_does_legal s u (Sends_message what moment) added sent (message, sends, none, is) = rw none refl
terminal_does_legal s u (Takes_answer which decision) added sent (message, decided, at, decides, is, none) =
    rw is (decided_legal s.settled message decision decided u decides)
terminal_does_legal s u (Hears_foreign received) added sent (foreign, is, none) = rw is refl

restarted_lawful : (s : TerminalState) (kept : ℕ) (on : Bool) → LawfulTerminal s → LawfulTerminal (record { settled = s.settled ++ take kept s.tried; tried = []; on = on; sent = s.sent; answers = s.answers })
restarted_lawful s kept on l =
    let whole : all_allowed [] ((s.settled ++ take kept s.tried) ++ drop kept s.tried) ≡ true =
    rw (append_assoc, take-append-drop) l.legal in
    record {
      legal = rw append-nil (all_allowed_front [] (s.settled ++ take kept s.tried) (drop kept s.tried) whole);
      setup = setup_more s.settled (take kept s.tried) l.setup;
      agreeing = l.agreeing;
    }

terminal_step_lawful : (s new : TerminalState) (event : Event TerminalAction) → LawfulTerminal s → TerminalStep s event new → LawfulTerminal new
terminal_step_lawful s new (Acts action) l (added, sent, on, does, is) =
    let front = all_allowed_front [] s.settled s.tried l.legal in
    subst LawfulTerminal (sym is) (record {
      legal = rw append-nil (all_allowed-append [] s.settled added front (terminal_does_legal s l.setup action added sent does));
      setup = setup_more s.settled added l.setup;
      agreeing = l.agreeing;
    })
terminal_step_lawful s new (Interrupted action) l (added, sent, on, does, is) =
    let front = all_allowed_front [] s.settled s.tried l.legal in
    subst LawfulTerminal (sym is) (record {
      legal = all_allowed-append [] s.settled added front (terminal_does_legal s l.setup action added sent does);
      setup = l.setup;
      agreeing = l.agreeing;
    })
terminal_step_lawful s new (Restart kept) l is = subst LawfulTerminal (sym is) (restarted_lawful s kept true l)
terminal_step_lawful s new (Interrupted_restart (Some kept)) l is = subst LawfulTerminal (sym is) (restarted_lawful s kept false l)
terminal_step_lawful s new (Interrupted_restart None) l is =
    subst LawfulTerminal (sym is) (record { legal = l.legal; setup = l.setup; agreeing = l.agreeing })

-- what the host answers agrees
request_agreeing : (settings : HostSettings) (number amount : ℕ) (account : List ℕ) → SomeAgreeing (answer_request settings number amount account).reply
request_agreeing settings number amount account =
    let P : Answered → Type 0 = λ a. SomeAgreeing a.reply in
    cond_both (is_approved settings amount account) _ _ P (λ _. refl) (λ _. refl)

data_agreeing : (given : Option MgmtBody) → SomeAgreeing (answer_data given).reply
data_agreeing None = refl
data_agreeing (Some (Status wanted in_force staged parts)) = refl
data_agreeing (Some (Plan actions)) = refl
data_agreeing (Some (Part_body part)) = refl
data_agreeing (Some (ManagementRejection refused)) = refl

approval_agrees : (item : Item) → SomeAgreeing (Some (approval_of item))
approval_agrees (Sale k amount account code) = refl
approval_agrees (Void k) = refl
approval_agrees (Cancel k amount) = refl
approval_agrees (Close p sums) = refl

answer_agreeing : (entries : List HostEntry) (place number : ℕ) (report : Report) → Accepts number report (answer_report entries place number report).reply → SomeAgreeing (answer_report entries place number report).reply
answer_agreeing entries place number (Advice item) a = subst SomeAgreeing (sym a) (approval_agrees item)
answer_agreeing entries place number (Many items) a = subst SomeAgreeing (sym a) refl
answer_agreeing entries place number (Asks_sale amount account) a = request_agreeing (setup_of entries) number amount account
answer_agreeing entries place number (Asks_cancel amount) a = refl
answer_agreeing entries place number Asks_state a = refl
answer_agreeing entries place number (Asks_data wanted in_force staged parts) a = data_agreeing (answer_status (published entries) (setup_of entries).start (setup_of entries).poll wanted in_force staged parts)
answer_agreeing entries place number From_host a = tt
answer_agreeing entries place number Unanswered a = tt

agreeing_replies : (entries : List HostEntry) (moment : ℕ) (received : Received) (reply : Option Body) (messages : List Message) → SomeAgreeing reply → Replies entries moment received reply messages → AllByRecursion IsAgreeing messages
agreeing_replies entries moment received None messages p is = rw is tt
agreeing_replies entries moment received (Some body) messages p (created, at, is) = rw is (p, tt)

rejection_agrees : (reply : Option Body) → RejectedOnly reply → SomeAgreeing reply
rejection_agrees None p = tt
rejection_agrees (Some body) (management, refused, is) =
    let none : reply_of body ≡ Rejects refused.reason = ap reply_of is ∙ rejection_reply management refused in
    ap reply_agrees none

pub record Lawful (host : HostSettings) (all : List TerminalSettings) (w : World) : Type 0 where
  pub inv : Invariant host all w
  pub terminals : (place : ℕ) (s : TerminalState) → slice_get w.terminals place ≡ Some s → LawfulTerminal s

module _ (host : HostSettings) (all : List TerminalSettings) where
  -- each message is accepted by whatever the host may have
  pub accepted_at : (w : World) → Lawful host all w → (place : ℕ) (s : TerminalState) → slice_get w.terminals place ≡ Some s → (k : ℕ) (message : Message) → slice_get s.sent k ≡ Some message → (others : List HostEntry) → May w.host.settled w.host.tried others → Accepts message.header.exchange (report_of message.body) (answer_of others place message.header.exchange message.body).reply
  accepted_at w l place s at k message sent others (held, are) =
      let sound = l.inv.terminals place s at in
      let t = l.terminals place s at in
      let n = length (log w.host.settled place) in
      let front : IsPrefixOf (log others place) (items_of s.settled) = rw are (prefix_trans _ _ _ (log_kept w.host.settled w.host.tried held place) sound.front) in
      let more : n ≤ length (log others place) = rw are (prefix_length _ _ (log_grow w.host.settled (take held w.host.tried) place)) in
      let ok = sent_ok host all w l.inv place s k message at sent in
      answer_accepted others place (items_of s.settled) message.header.exchange (report_of message.body) front
      (sent_more (items_of s.settled) (items_of s.settled) n (length (log others place)) (prefix_refl _) more message ok)
      (items_fit s.settled (all_allowed_front [] s.settled s.tried t.legal))
      (totals_from [] [] s.settled tt)

  pub accepted : (w : World) → Lawful host all w → (place : ℕ) (s : TerminalState) → slice_get w.terminals place ≡ Some s → (k : ℕ) (message : Message) → slice_get s.sent k ≡ Some message → (others : List HostEntry) → May w.host.settled w.host.tried others → Accepts message.header.exchange (report_of message.body) (answer_received others (Read message)).reply
  accepted w l place s at k message sent others (held, are) =
      let same_setup : setup_of others ≡ host = ap setup_of are ∙ setup_kept host all w l.inv.naming (take held w.host.tried) in
      subst (λ (a : Answered). Accepts message.header.exchange (report_of message.body) a.reply)
      (sym (answered_is host all w l.inv others same_setup place s k message at sent))
      (accepted_at w l place s at k message sent others (held, are))

  host_does_agreeing : (w : World) → Lawful host all w → (action : HostAction) (added : List HostEntry) (receiver : ℕ) (replies : List Message) → HostDoes w action added receiver replies → AllByRecursion IsAgreeing replies
  host_does_agreeing w l (Answers terminal which moment) added receiver replies (s, message, at, sent, is, to, back) =
      let same = answered_is host all w l.inv w.host.settled (setup_settled host all w l.inv) terminal s which message at sent in
      let back' = subst (λ (a : Answered). Replies w.host.settled moment (Read message) a.reply replies) same back in
      agreeing_replies w.host.settled moment (Read message) _ replies (answer_agreeing w.host.settled terminal message.header.exchange (report_of message.body)
      (accepted_at w l terminal s at which message sent w.host.settled (0, sym (append-nil _)))) back'
  host_does_agreeing w l (Answers_foreign received moment) added receiver replies (foreign, is, to, back) =
      let r = foreign_is_rejected w.host.settled received foreign in
      agreeing_replies w.host.settled moment received (answer_received w.host.settled received).reply replies (rejection_agrees (answer_received w.host.settled received).reply r.reply) back
  host_does_agreeing w l (Publishes rows) added receiver replies (lt, is, none) = rw none tt

  host_terminals : (w new : World) (event : Event HostAction) → Lawful host all w → HostStep w event new → (place : ℕ) (s : TerminalState) → slice_get new.terminals place ≡ Some s → LawfulTerminal s
  host_terminals w new (Acts action) l (added, receiver, replies, on, does, is) place t at =
      let agree = host_does_agreeing w l action added receiver replies does in
      let (s, was, cases) = delivered_cases w.terminals receiver place replies t (rw is at at) in
      let old = l.terminals place s was in
      ⊎_elim
      (λ (same, is'). subst LawfulTerminal (sym is') (record { legal = old.legal; setup = old.setup; agreeing = all_append _ s.answers replies old.agreeing agree }))
      (λ is'. subst LawfulTerminal (sym is') old)
      cases
  host_terminals w new (Interrupted action) l (added, receiver, replies, on, does, is) place t at = l.terminals place t (rw is at at)
  host_terminals w new (Restart kept) l is place t at = l.terminals place t (rw is at at)
  host_terminals w new (Interrupted_restart (Some kept)) l is place t at = l.terminals place t (rw is at at)
  host_terminals w new (Interrupted_restart None) l is place t at = l.terminals place t (rw is at at)

  pub step_lawful : (w new : World) (happening : Happening) → Lawful host all w → Step w happening new → Lawful host all new
  step_lawful w new (At_host event) l step = record { inv = step_sound host all w new (At_host event) l.inv step; terminals = host_terminals w new event l step }
  step_lawful w new (At_terminal place event) l (before, after, at, step, is) =
      record {
        inv = step_sound host all w new (At_terminal place event) l.inv (before, after, at, step, is);
        terminals = λ other t here.
            ⊎_elim
            (λ (same, is'). rw is' (terminal_step_lawful before after event (l.terminals place before at) step))
            (λ was. l.terminals other t was)
            (set_cases w.terminals place other after t (rw is at here));
      }

  run_lawful : (w new : World) (happenings : List Happening) → Lawful host all w → Run w happenings new → Lawful host all new
  run_lawful w new [] l is = subst (Lawful host all) (sym is) l
  run_lawful w new (happening ∷ happenings) l (next, step, run) = run_lawful next new happenings (step_lawful w next happening l step) run

  pub first_lawful : SetUpsMatch host all → Lawful host all (first host all)
  first_lawful match =
      record {
        inv = first_sound host all match;
        terminals = λ place s at.
            let (settings, there, is) = started_cases all place s at in
            let rule = all_at (λ (x : TerminalSettings). is_terminal_settings x ≡ true) all place settings there match.rules in
            subst LawfulTerminal (sym is) (record { legal = and_from _ _ rule refl; setup = record { settings = settings; rest = []; is = refl }; agreeing = tt });
      }

  pub lawful_run : (happenings : List Happening) (w : World) → SetUpsMatch host all → Run (first host all) happenings w → Lawful host all w
  lawful_run happenings w match run = run_lawful (first host all) w happenings (first_lawful match) run

-- what the terminal makes of an answer
acked_expected : (m : ℕ) (ack : Acknowledgement) → agrees ack ≡ true → Expected (Ok (acked_answer m ack))
acked_expected m (Of_end response) ok = record { within = λ k len e. cc; agree = λ k sums agree e. cc }
acked_expected m (Of_cancel response) ok = record { within = λ k len e. cc; agree = λ k sums agree e. cc }
acked_expected m (Of_close response p totals) ok = record { within = λ k len e. cc; agree = λ k sums agree e. cc }
acked_expected m (Of_items response last) ok = record { within = λ k len e. cc; agree = λ k sums agree e. cc }

acknowledgement_expected : (entries : List TermEntry) (m : ℕ) (ack : Acknowledgement) → m ≤ length (items_of entries) → agrees ack ≡ true → Expected (take_acknowledgement entries m ack).answer
acknowledgement_expected entries m ack le ok =
    let P : Taken → Type 0 = λ t. Expected t.answer in
    cond_both (not (acknowledges ack)) _ _ P (λ _. record { within = λ k len e. cc; agree = λ k sums agree e. cc })
    (λ _. cond_both (nat_le m (acked entries)) _ _ P (λ _. record { within = λ k len e. cc; agree = λ k sums agree e. cc })
    (λ _. cond_both (nat_lt (length (items_of entries)) m) _ _ P
    (λ past. absurd (omega (arith, ltb-true (length (items_of entries)) m past)))
    (λ _. cond_both (is_awaited entries m ack) _ _ P (λ _. acked_expected m ack ok) (λ _. record { within = λ k len e. cc; agree = λ k sums agree e. cc }))))

reply_expected : (entries : List TermEntry) (number : ℕ) (reply : Reply) → reply_item number reply ≤ length (items_of entries) → reply_agrees reply ≡ true → Expected (take_reply entries number reply).answer
reply_expected entries number (Gives_part part) le ok =
    let P : Taken → Type 0 = λ t. Expected t.answer in
    cond_both (part_allowed entries part) _ _ P (λ _. record { within = λ k len e. cc; agree = λ k sums agree e. cc }) (λ _. record { within = λ k len e. cc; agree = λ k sums agree e. cc })
reply_expected entries number (Acknowledges ack) le ok = acknowledgement_expected entries (named_item number ack) ack le ok
reply_expected entries number (Rejects reason) le ok = record { within = λ k len e. cc; agree = λ k sums agree e. cc }
reply_expected entries number (Decides_sale response code) le ok = record { within = λ k len e. cc; agree = λ k sums agree e. cc }
reply_expected entries number (Decides_cancel response) le ok = record { within = λ k len e. cc; agree = λ k sums agree e. cc }
reply_expected entries number (Tells_state last) le ok = record { within = λ k len e. cc; agree = λ k sums agree e. cc }
reply_expected entries number (Gives_plan actions) le ok = record { within = λ k len e. cc; agree = λ k sums agree e. cc }
reply_expected entries number From_terminal le ok = record { within = λ k len e. cc; agree = λ k sums agree e. cc }

takes_expected : (entries : List TermEntry) (message : Message) → AnswerOk (length (items_of entries)) message → IsAgreeing message → Expected (takes entries (Read message)).answer
takes_expected entries message le ok =
    let P : Taken → Type 0 = λ t. Expected t.answer in
    cond_both (is_for_us entries message) _ _ P (λ _. reply_expected entries message.header.exchange (reply_of message.body) le ok)
    (λ _. record { within = λ k len e. cc; agree = λ k sums agree e. cc })

pub every_advice_is_accepted : EveryAdviceIsAccepted
every_advice_is_accepted host all happenings w match run = accepted host all w (lawful_run host all happenings w match run)

pub every_answer_is_expected : EveryAnswerIsExpected
every_answer_is_expected host all happenings w match run place s at k message sent entries (kept, is) =
    let l = lawful_run host all happenings w match run in
    let sound = l.inv.terminals place s at in
    let n = length (log w.host.settled place) in
    let ok = all_at (AnswerOk n) s.answers k message sent sound.answers in
    let agree = all_at IsAgreeing s.answers k message sent (l.terminals place s at).agreeing in
    let a : n ≤ length (log (w.host.settled ++ w.host.tried) place) = prefix_length _ _ (log_grow w.host.settled w.host.tried place) in
    let b : length (log (w.host.settled ++ w.host.tried) place) ≤ length (items_of s.settled) = prefix_length _ _ sound.front in
    let c : length (items_of s.settled) ≤ length (items_of entries) = rw is (prefix_length _ _ (items_grow s.settled (take kept s.tried))) in
    takes_expected entries message (answer_more n (length (items_of entries)) (omega arith) message ok) agree
