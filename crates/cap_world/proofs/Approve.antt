-- Each completed sale was approved.
use Rattle.std.proofs.Common.{◌≡◌, ℕ, zero, suc, ◌+◌, Bool, true, List, [], ◌∷◌, ◌++◌, length, take, drop, Some, sym, ◌∙◌, ap, subst, append_assoc, append-nil, take-append-drop, ◌⊎◌, false, map, Option, None, refl, inl, inr, ⊎_elim, not}
use Rattle.std.specs.Prelude.{slice_get, nat_le, nat_lt, ◌==◌}
use Rattle.std.specs.List.{AllByRecursion, list_any}
use Rattle.std.proofs.lemmas.Bool.{cond_both, cond-true, cond-false, and_parts, cases_Bool, false≢true, or_left}
use Rattle.std.proofs.lemmas.Option.{same_Some, none-some}
use Rattle.std.proofs.lemmas.List.Folds.{list_any-append}
use Rattle.cap_base.specs.declared.item.Item.{Item}
use Rattle.cap_base.specs.declared.item.Item.TheVariants.{Sale, Void, Cancel, Close}
use Rattle.cap_base.specs.declared.codes.Response.{Response}
use Rattle.cap_base.specs.declared.codes.Response.TheVariants.{Appr, Decl}
use Rattle.cap_sale_msgs.specs.declared.body.SaleBody.TheVariants.{AuthRequest, AuthAnswer, Completion, CompletionAnswer, CancelRequest, CancelAnswer, CancelAdvice, CancelAdviceAnswer}
use Rattle.cap_batch_msgs.specs.declared.body.BatchBody.TheVariants.{Reconcile, ReconcileAnswer, Batch, BatchAnswer, Diagnostic, DiagnosticAnswer, Rejection}
use Rattle.cap_mgmt_msgs.specs.declared.body.MgmtBody.{MgmtBody}
use Rattle.cap_mgmt_msgs.specs.declared.body.MgmtBody.TheVariants.{Status, Plan, Part as Part_body, ManagementRejection}
use Rattle.cap_msgs.specs.declared.message.Body.{Body}
use Rattle.cap_msgs.specs.declared.message.Body.TheVariants.{Sale as Of_sale, Batch as Of_batch, Management as Of_management}
use Rattle.cap_msgs.specs.declared.message.Message.{Message}
use Rattle.cap_msgs.specs.Received.{Received, Read}
use Rattle.cap_msgs.specs.Report.{Report, Asks_sale, Asks_cancel, Asks_state, Asks_data, Advice, Many, From_host, Unanswered, report_of, advice_of}
use Rattle.cap_msgs.specs.Reply.{Reply, Rejects, Decides_sale, Decides_cancel, Tells_state, Gives_plan, Gives_part, Acknowledges, From_terminal, reply_of, Acknowledgement, acknowledges, named_item}
use Rattle.cap_entries.specs.Settings.{TerminalSettings, HostSettings}
use Rattle.cap_entries.specs.declared.terminal.TermEntry.{TermEntry}
use Rattle.cap_entries.specs.declared.terminal.TermEntry.TheVariants.{Setup, Begin, Declined, Completed, Voided, Cancelled, Closed, Acked, Part as Part_entry}
use Rattle.cap_entries.specs.declared.host.HostEntry.{HostEntry}
use Rattle.cap_entries.specs.Entry.{is_begin, ends, amount_of, account_of}
use Rattle.cap_entries.specs.Items.{items as items_of}
use Rattle.cap_entries.specs.Acked.{acked}
use Rattle.cap_entries.specs.Allowed.{part_allowed}
use Rattle.cap_entries.specs.Log.{published, setup_of}
use Rattle.cap_manager.specs.Manager.{answer_status}
use Rattle.cap_host_answers.specs.Answer.{Answered, answers, is_approved, answer_request, answer_data, answer_report}
use Rattle.cap_host_answers.specs.Received.{answer_received, number_of, Replies}
use Rattle.cap_terminal_answers.specs.Takes.{Taken, is_awaited, take_acknowledgement, take_reply, is_for_us, takes}
use Rattle.cap_terminal_answers.specs.Does.{Decision, Leave, Complete, Give_up, Decline, Decides}
use Rattle.cap_terminal_answers.specs.Sends.{Sending, Head, Batch_of, Ask, Ask_cancel, Diagnose, Report_status, Sends}
use Rattle.cap_answering.specs.Steps.{Event, Acts, Interrupted, Restart, Interrupted_restart}
use Rattle.cap_world.specs.World.{TerminalState, World, TerminalAction, Begins, Offline, Gives_up, Cancels, Closes, Sends_message, Takes_answer, Hears_foreign, TerminalDoes, TerminalStep, HostAction, Answers, Answers_foreign, Publishes, HostDoes, HostStep, Happening, At_terminal, At_host, Step, started, first, Run}
use Rattle.cap_world.proofs.Named.{all_append, all_at, all_weaker, delivered_cases, set_cases}
use Rattle.cap_world.proofs.Parties.{RejectedOnly, foreign_is_rejected, rejection_reply}
use Rattle.cap_world.proofs.Steps.{answered_is, setup_settled}
use Rattle.cap_plain.specs.LegalLaws.{amount_of-append}
use Rattle.cap_world.specs.Accepted.{approval_of, Accepts}
use Rattle.cap_world.proofs.Lawful.{Lawful, accepted_at, step_lawful, first_lawful, decision_taken}
use Rattle.cap_world.specs.Approved.{ApprovedOffline, ApprovedByHost, EveryCompletionIsApproved}

-- a fact about each entry and what stands before it
abbrev pub AllAlong : (List TermEntry → TermEntry → Type 0) → List TermEntry → List TermEntry → Type 0
AllAlong P before [] = Unit {0}
AllAlong P before (entry ∷ entries) = P before entry × AllAlong P (before ++ entry ∷ []) entries

module _ (P : List TermEntry → TermEntry → Type 0) where
  along-append : (before entries more : List TermEntry) → AllAlong P before entries → AllAlong P (before ++ entries) more → AllAlong P before (entries ++ more)
  along-append before [] more p q = rw append-nil at q
  along-append before (entry ∷ entries) more p q = (p.0, along-append (before ++ entry ∷ []) entries more p.1 (rw append_assoc q))

  along_front : (before entries more : List TermEntry) → AllAlong P before (entries ++ more) → AllAlong P before entries
  along_front before [] more p = tt
  along_front before (entry ∷ entries) more p = (p.0, along_front (before ++ entry ∷ []) entries more p.1)

  along_at : (before entries : List TermEntry) (entry : TermEntry) (more : List TermEntry) → AllAlong P before (entries ++ (entry ∷ more)) → P (before ++ entries) entry
  along_at before [] entry more p = rw append-nil p.0
  along_at before (other ∷ entries) entry more p = rw append_assoc at (along_at (before ++ other ∷ []) entries entry more p.1)

along_weaker : (P Q : List TermEntry → TermEntry → Type 0) → ((before : List TermEntry) (entry : TermEntry) → P before entry → Q before entry) → (before entries : List TermEntry) → AllAlong P before entries → AllAlong Q before entries
along_weaker P Q f before [] p = tt
along_weaker P Q f before (entry ∷ entries) p = (f before entry p.0, along_weaker P Q f (before ++ entry ∷ []) entries p.1)

-- the account of a sale that was begun stays
account_of-append : (before more : List TermEntry) (n : ℕ) → list_any (is_begin n) before ≡ true → account_of (before ++ more) n ≡ account_of before n
account_of-append [] more n e = absurd (false≢true e)
account_of-append (Begin k amount account ∷ rest) more n e =
    ⊎_elim (λ yes. cond-true (k == n) _ _ yes ∙ sym (cond-true (k == n) _ _ yes))
    (λ no'. cond-false (k == n) _ _ no' ∙ (account_of-append rest more n (rw no' at e) ∙ sym (cond-false (k == n) _ _ no')))
    (cases_Bool (k == n))
account_of-append (Setup setup ∷ rest) more n e = account_of-append rest more n e
account_of-append (Declined k ∷ rest) more n e = account_of-append rest more n e
account_of-append (Completed k code ∷ rest) more n e = account_of-append rest more n e
account_of-append (Voided k ∷ rest) more n e = account_of-append rest more n e
account_of-append (Cancelled k ∷ rest) more n e = account_of-append rest more n e
account_of-append (Closed k ∷ rest) more n e = account_of-append rest more n e
account_of-append (Acked k ∷ rest) more n e = account_of-append rest more n e
account_of-append (Part_entry part ∷ rest) more n e = account_of-append rest more n e

slice_get_front : (xs ys : List Message) (k : ℕ) (x : Message) → slice_get xs k ≡ Some x → slice_get (xs ++ ys) k ≡ Some x
slice_get_front [] ys k x e = absurd (none-some x e)
slice_get_front (y ∷ xs) ys zero x e = e
slice_get_front (y ∷ xs) ys (suc k) x e = slice_get_front xs ys k x e

-- a request for authorisation has the amount and account of the sale that was begun
pub record RequestOf (entries : List TermEntry) (n amount : ℕ) (account : List ℕ) : Type 0 where
  pub begun : list_any (is_begin n) entries ≡ true
  pub amount_is : amount ≡ amount_of entries n
  pub account_is : account ≡ account_of entries n

abbrev AskedOk : List TermEntry → ℕ → Report → Type 0
AskedOk entries n (Asks_sale amount account) = RequestOf entries n amount account
AskedOk entries n _ = Unit {0}

abbrev pub RequestOk : List TermEntry → Message → Type 0
RequestOk entries message = AskedOk entries message.header.exchange (report_of message.body)

-- an approval is of a sale that was begun, by the host's rule
pub record ApprovalOf (host : HostSettings) (entries : List TermEntry) (n : ℕ) : Type 0 where
  pub begun : list_any (is_begin n) entries ≡ true
  pub rule : is_approved host (amount_of entries n) (account_of entries n) ≡ true

abbrev DecidedOk : HostSettings → List TermEntry → ℕ → Reply → Type 0
DecidedOk host entries n (Decides_sale response code) = response ≡ Appr → ApprovalOf host entries n
DecidedOk host entries n _ = Unit {0}

abbrev pub ApprovalOk : HostSettings → List TermEntry → Message → Type 0
ApprovalOk host entries message = DecidedOk host entries message.header.exchange (reply_of message.body)

asked_more : (entries more : List TermEntry) (n : ℕ) (report : Report) → AskedOk entries n report → AskedOk (entries ++ more) n report
asked_more entries more n (Asks_sale amount account) r =
    record { begun = list_any-append _ entries more ∙ or_left _ _ r.begun; amount_is = r.amount_is ∙ sym (amount_of-append entries more n r.begun); account_is = r.account_is ∙ sym (account_of-append entries more n r.begun) }
asked_more entries more n (Asks_cancel amount) r = tt
asked_more entries more n Asks_state r = tt
asked_more entries more n (Asks_data wanted in_force staged parts) r = tt
asked_more entries more n (Advice item) r = tt
asked_more entries more n (Many items) r = tt
asked_more entries more n From_host r = tt
asked_more entries more n Unanswered r = tt

request_more : (entries more : List TermEntry) (message : Message) → RequestOk entries message → RequestOk (entries ++ more) message
request_more entries more message r = asked_more entries more message.header.exchange (report_of message.body) r

decided_more : (host : HostSettings) (entries more : List TermEntry) (n : ℕ) (reply : Reply) → DecidedOk host entries n reply → DecidedOk host (entries ++ more) n reply
decided_more host entries more n (Decides_sale response code) r =
    λ e. let a = r e in
    record { begun = list_any-append _ entries more ∙ or_left _ _ a.begun; rule = rw (amount_of-append entries more n a.begun, account_of-append entries more n a.begun) a.rule }
decided_more host entries more n (Rejects reason) r = tt
decided_more host entries more n (Decides_cancel response) r = tt
decided_more host entries more n (Tells_state last) r = tt
decided_more host entries more n (Gives_plan actions) r = tt
decided_more host entries more n (Gives_part part) r = tt
decided_more host entries more n (Acknowledges ack) r = tt
decided_more host entries more n From_terminal r = tt

approval_more : (host : HostSettings) (entries more : List TermEntry) (message : Message) → ApprovalOk host entries message → ApprovalOk host (entries ++ more) message
approval_more host entries more message r = decided_more host entries more message.header.exchange (reply_of message.body) r

-- each completed sale was approved
abbrev pub EntryApproved : HostSettings → List Message → List TermEntry → TermEntry → Type 0
EntryApproved host answers before (Completed n code) = ApprovedOffline before n code ⊎ ApprovedByHost host answers before n code
EntryApproved host answers before _ = Unit {0}

approved_more : (host : HostSettings) (answers more : List Message) (before : List TermEntry) (entry : TermEntry) → EntryApproved host answers before entry → EntryApproved host (answers ++ more) before entry
approved_more host answers more before (Completed n code) p =
    ⊎_elim (λ a. inl a)
    (λ b. inr (record { which = b.which; message = b.message; there = slice_get_front answers more b.which b.message b.there; number = b.number; answer = b.answer; rule = b.rule })) p
approved_more host answers more before (Setup setup) p = tt
approved_more host answers more before (Begin k amount account) p = tt
approved_more host answers more before (Declined k) p = tt
approved_more host answers more before (Voided k) p = tt
approved_more host answers more before (Cancelled k) p = tt
approved_more host answers more before (Closed k) p = tt
approved_more host answers more before (Acked k) p = tt
approved_more host answers more before (Part_entry part) p = tt

pub record ApprovingTerminal (host : HostSettings) (s : TerminalState) : Type 0 where
  pub requests : AllByRecursion (RequestOk s.settled) s.sent
  pub approvals : AllByRecursion (ApprovalOk host s.settled) s.answers
  pub entries : AllAlong (EntryApproved host s.answers) [] (s.settled ++ s.tried)

advice_quiet : (entries : List TermEntry) (n : ℕ) (item : Item) → AskedOk entries n (report_of (advice_of item))
advice_quiet entries n (Sale k amount account code) = tt
advice_quiet entries n (Void k) = tt
advice_quiet entries n (Cancel k amount) = tt
advice_quiet entries n (Close p sums) = tt

sends_requests : (entries : List TermEntry) (what : Sending) (moment : ℕ) (message : Message) → Sends entries what moment message → RequestOk entries message
sends_requests entries (Head repeat) moment message (item, e, few, (created, at, is)) = rw is (advice_quiet entries (acked entries + 1) item)
sends_requests entries (Batch_of limit repeat) moment message (low, high, few, some, (created, at, is)) = rw is tt
sends_requests entries (Ask k) moment message (p, (created, at, is)) = rw is (record { begun = (and_parts (list_any (is_begin k) entries) (not (list_any (ends k) entries)) p).0; amount_is = refl; account_is = refl })
sends_requests entries (Ask_cancel k) moment message (p, (created, at, is)) = rw is tt
sends_requests entries Diagnose moment message (created, at, is) = rw is tt
sends_requests entries (Report_status wanted) moment message (p, (created, at, is)) = rw is tt

acknowledgement_quiet : (host : HostSettings) (answers : List Message) (entries : List TermEntry) (m : ℕ) (ack : Acknowledgement) → AllAlong (EntryApproved host answers) entries (take_acknowledgement entries m ack).added
acknowledgement_quiet host answers entries m ack =
    let P : Taken → Type 0 = λ t. AllAlong (EntryApproved host answers) entries t.added in
    cond_both (not (acknowledges ack)) _ _ P (λ _. tt)
    (λ _. cond_both (nat_le m (acked entries)) _ _ P (λ _. tt)
    (λ _. cond_both (nat_lt (length (items_of entries)) m) _ _ P (λ _. tt) (λ _. cond_both (is_awaited entries m ack) _ _ P (λ _. (tt, tt)) (λ _. tt))))

reply_quiet : (host : HostSettings) (answers : List Message) (entries : List TermEntry) (number : ℕ) (reply : Reply) → AllAlong (EntryApproved host answers) entries (take_reply entries number reply).added
reply_quiet host answers entries number (Gives_part part) =
    let P : Taken → Type 0 = λ t. AllAlong (EntryApproved host answers) entries t.added in
    cond_both (part_allowed entries part) _ _ P (λ _. (tt, tt)) (λ _. tt)
reply_quiet host answers entries number (Acknowledges ack) = acknowledgement_quiet host answers entries (named_item number ack) ack
reply_quiet host answers entries number (Rejects reason) = tt
reply_quiet host answers entries number (Decides_sale response code) = tt
reply_quiet host answers entries number (Decides_cancel response) = tt
reply_quiet host answers entries number (Tells_state last) = tt
reply_quiet host answers entries number (Gives_plan actions) = tt
reply_quiet host answers entries number From_terminal = tt

takes_quiet : (host : HostSettings) (answers : List Message) (entries : List TermEntry) (message : Message) → AllAlong (EntryApproved host answers) entries (takes entries (Read message)).added
takes_quiet host answers entries message =
    let P : Taken → Type 0 = λ t. AllAlong (EntryApproved host answers) entries t.added in
    cond_both (is_for_us entries message) _ _ P (λ _. reply_quiet host answers entries message.header.exchange (reply_of message.body)) (λ _. tt)

-- a decision on a sale is of one sort of message
decided_body : (body : Body) (response : Response) (code : List ℕ) → reply_of body ≡ Decides_sale response code → body ≡ Of_sale (AuthAnswer response code)
decided_body (Of_sale (AuthAnswer other word)) response code e = cc
decided_body (Of_sale (AuthRequest amount account)) response code e = absurd (let no' : ⊥ = cc in no')
decided_body (Of_sale (Completion ended)) response code e = absurd (let no' : ⊥ = cc in no')
decided_body (Of_sale (CompletionAnswer other)) response code e = absurd (let no' : ⊥ = cc in no')
decided_body (Of_sale (CancelRequest amount)) response code e = absurd (let no' : ⊥ = cc in no')
decided_body (Of_sale (CancelAnswer other)) response code e = absurd (let no' : ⊥ = cc in no')
decided_body (Of_sale (CancelAdvice n amount)) response code e = absurd (let no' : ⊥ = cc in no')
decided_body (Of_sale (CancelAdviceAnswer other)) response code e = absurd (let no' : ⊥ = cc in no')
decided_body (Of_batch (Reconcile period sums)) response code e = absurd (let no' : ⊥ = cc in no')
decided_body (Of_batch (ReconcileAnswer other period sums)) response code e = absurd (let no' : ⊥ = cc in no')
decided_body (Of_batch (Batch items)) response code e = absurd (let no' : ⊥ = cc in no')
decided_body (Of_batch (BatchAnswer other last)) response code e = absurd (let no' : ⊥ = cc in no')
decided_body (Of_batch (Diagnostic last)) response code e = absurd (let no' : ⊥ = cc in no')
decided_body (Of_batch (DiagnosticAnswer other last)) response code e = absurd (let no' : ⊥ = cc in no')
decided_body (Of_batch (Rejection refused)) response code e = absurd (let no' : ⊥ = cc in no')
decided_body (Of_management (Status wanted in_force staged parts)) response code e = absurd (let no' : ⊥ = cc in no')
decided_body (Of_management (Plan actions)) response code e = absurd (let no' : ⊥ = cc in no')
decided_body (Of_management (Part_body part)) response code e = absurd (let no' : ⊥ = cc in no')
decided_body (Of_management (ManagementRejection refused)) response code e = absurd (let no' : ⊥ = cc in no')

decided_approved : (host : HostSettings) (answers : List Message) (entries : List TermEntry) (which : ℕ) (message : Message) (decision : Decision) (decided : List TermEntry) → slice_get answers which ≡ Some message → ApprovalOk host entries message → Decides entries (takes entries (Read message)).answer decision decided → AllAlong (EntryApproved host answers) entries ((takes entries (Read message)).added ++ decided)
decided_approved host answers entries which message Leave decided at ok is = rw (is, append-nil) (takes_quiet host answers entries message)
decided_approved host answers entries which message Complete decided at ok (given, e, approved, p, is) =
    let t = decision_taken entries message given e in
    let a : ApprovalOf host entries message.header.exchange = subst (DecidedOk host entries message.header.exchange) t.reply ok approved in
    let b : message.body ≡ Of_sale (AuthAnswer Appr given.code) = decided_body message.body given.response given.code t.reply ∙ ap (λ (r : Response). Of_sale (AuthAnswer r given.code)) approved in
    let r : is_approved host (amount_of entries given.n) (account_of entries given.n) ≡ true = subst (λ n. is_approved host (amount_of entries n) (account_of entries n) ≡ true) t.number a.rule in
    rw (t.added, is) (inr (record { which = which; message = message; there = at; number = t.number; answer = b; rule = r }), tt)
decided_approved host answers entries which message Give_up decided at ok (given, e, approved, p, is) =
    rw ((decision_taken entries message given e).added, is) (tt, tt)
decided_approved host answers entries which message Decline decided at ok (given, e, ne, p, is) =
    rw ((decision_taken entries message given e).added, is) (tt, tt)

record DoesApproved (host : HostSettings) (s : TerminalState) (added : List TermEntry) (sent : List Message) : Type 0 where
  entries : AllAlong (EntryApproved host s.answers) s.settled added
  requests : AllByRecursion (RequestOk s.settled) sent

terminal_does_approved : (host : HostSettings) (s : TerminalState) → ApprovingTerminal host s → (action : TerminalAction) (added : List TermEntry) (sent : List Message) → TerminalDoes s action added sent → DoesApproved host s added sent
terminal_does_approved host s a (Begins amount account) added sent ((lt, is), none) = record { entries = rw is (tt, tt); requests = rw none tt }
terminal_does_approved host s a (Offline k) added sent ((p, le, is), none) = record { entries = rw is (inl (record { code_is = refl; amount = le }), tt); requests = rw none tt }
terminal_does_approved host s a (Gives_up k) added sent ((p, is), none) = record { entries = rw is (tt, tt); requests = rw none tt }
terminal_does_approved host s a (Cancels k) added sent ((p, is), none) = record { entries = rw is (tt, tt); requests = rw none tt }
terminal_does_approved host s a Closes added sent ((p, is), none) = record { entries = rw is (tt, tt); requests = rw none tt }
terminal_does_approved host s a (Sends_message what moment) added sent (message, sends, none, is) = record { entries = rw none tt; requests = rw is (sends_requests s.settled what moment message sends, tt) }
terminal_does_approved host s a (Takes_answer which decision) added sent (message, decided, at, decides, is, none) =
    let ok = all_at (ApprovalOk host s.settled) s.answers which message at a.approvals in
    record { entries = rw is (decided_approved host s.answers s.settled which message decision decided at ok decides); requests = rw none tt }
terminal_does_approved host s a (Hears_foreign received) added sent (foreign, is, none) = record { entries = rw is tt; requests = rw none tt }

restarted_approving : (host : HostSettings) (s : TerminalState) (kept : ℕ) (on : Bool) → ApprovingTerminal host s → ApprovingTerminal host (record { settled = s.settled ++ take kept s.tried; tried = []; on = on; sent = s.sent; answers = s.answers })
restarted_approving host s kept on a =
    let P : List TermEntry → TermEntry → Type 0 = EntryApproved host s.answers in
    let whole : AllAlong P [] ((s.settled ++ take kept s.tried) ++ drop kept s.tried) = rw (append_assoc, take-append-drop) a.entries in
    record {
      requests = all_weaker _ _ (request_more s.settled (take kept s.tried)) s.sent a.requests;
      approvals = all_weaker _ _ (approval_more host s.settled (take kept s.tried)) s.answers a.approvals;
      entries = rw append-nil (along_front P [] (s.settled ++ take kept s.tried) (drop kept s.tried) whole);
    }

terminal_step_approving : (host : HostSettings) (s new : TerminalState) (event : Event TerminalAction) → ApprovingTerminal host s → TerminalStep s event new → ApprovingTerminal host new
terminal_step_approving host s new (Acts action) a (added, sent, on, does, is) =
    let d = terminal_does_approved host s a action added sent does in
    let P : List TermEntry → TermEntry → Type 0 = EntryApproved host s.answers in
    subst (ApprovingTerminal host) (sym is) (record {
      requests = all_append (RequestOk (s.settled ++ added)) s.sent sent
          (all_weaker _ _ (request_more s.settled added) s.sent a.requests)
          (all_weaker _ _ (request_more s.settled added) sent d.requests);
      approvals = all_weaker _ _ (approval_more host s.settled added) s.answers a.approvals;
      entries = rw append-nil (along-append P [] s.settled added (along_front P [] s.settled s.tried a.entries) d.entries);
    })
terminal_step_approving host s new (Interrupted action) a (added, sent, on, does, is) =
    let d = terminal_does_approved host s a action added sent does in
    let P : List TermEntry → TermEntry → Type 0 = EntryApproved host s.answers in
    subst (ApprovingTerminal host) (sym is) (record {
      requests = a.requests;
      approvals = a.approvals;
      entries = along-append P [] s.settled added (along_front P [] s.settled s.tried a.entries) d.entries;
    })
terminal_step_approving host s new (Restart kept) a is = subst (ApprovingTerminal host) (sym is) (restarted_approving host s kept true a)
terminal_step_approving host s new (Interrupted_restart (Some kept)) a is = subst (ApprovingTerminal host) (sym is) (restarted_approving host s kept false a)
terminal_step_approving host s new (Interrupted_restart None) a is = subst (ApprovingTerminal host) (sym is) (record { requests = a.requests; approvals = a.approvals; entries = a.entries })

abbrev SomeApproval : HostSettings → List TermEntry → ℕ → Option Body → Type 0
SomeApproval host entries n None = Unit {0}
SomeApproval host entries n (Some body) = DecidedOk host entries n (reply_of body)

request_approval : (host : HostSettings) (entries : List TermEntry) (n amount : ℕ) (account : List ℕ) → RequestOf entries n amount account → SomeApproval host entries n (answer_request host n amount account).reply
request_approval host entries n amount account r =
    let P : Answered → Type 0 = λ a. SomeApproval host entries n a.reply in
    cond_both (is_approved host amount account) _ _ P
    (λ yes e. record { begun = r.begun; rule = rw (sym r.amount_is, sym r.account_is) yes })
    (λ _ e. absurd (let no' : Decl ≡ Appr = e in cc))

data_approval : (host : HostSettings) (entries : List TermEntry) (n : ℕ) (given : Option MgmtBody) → SomeApproval host entries n (answer_data given).reply
data_approval host entries n None = tt
data_approval host entries n (Some (Status wanted in_force staged parts)) = tt
data_approval host entries n (Some (Plan actions)) = tt
data_approval host entries n (Some (Part_body part)) = tt
data_approval host entries n (Some (ManagementRejection refused)) = tt

item_approval : (host : HostSettings) (entries : List TermEntry) (n : ℕ) (item : Item) → SomeApproval host entries n (Some (approval_of item))
item_approval host entries n (Sale k amount account code) = tt
item_approval host entries n (Void k) = tt
item_approval host entries n (Cancel k amount) = tt
item_approval host entries n (Close p sums) = tt

answer_approving : (host : HostSettings) (others : List HostEntry) (entries : List TermEntry) (place n : ℕ) (report : Report) → setup_of others ≡ host → AskedOk entries n report → Accepts n report (answer_report others place n report).reply → SomeApproval host entries n (answer_report others place n report).reply
answer_approving host others entries place n (Asks_sale amount account) h r a = rw h (request_approval host entries n amount account r)
answer_approving host others entries place n (Advice item) h r a = subst (SomeApproval host entries n) (sym a) (item_approval host entries n item)
answer_approving host others entries place n (Many items) h r a = subst (SomeApproval host entries n) (sym a) tt
answer_approving host others entries place n (Asks_data wanted in_force staged parts) h r a = data_approval host entries n (answer_status (published others) (setup_of others).start (setup_of others).poll wanted in_force staged parts)
answer_approving host others entries place n (Asks_cancel amount) h r a = tt
answer_approving host others entries place n Asks_state h r a = tt
answer_approving host others entries place n From_host h r a = tt
answer_approving host others entries place n Unanswered h r a = tt

replies_approving : (host : HostSettings) (entries : List TermEntry) (others : List HostEntry) (moment : ℕ) (received : Received) (reply : Option Body) (messages : List Message) → SomeApproval host entries (number_of received) reply → Replies others moment received reply messages → AllByRecursion (ApprovalOk host entries) messages
replies_approving host entries others moment received None messages p is = rw is tt
replies_approving host entries others moment received (Some body) messages p (created, at, is) = rw is (p, tt)

rejection_approves : (host : HostSettings) (entries : List TermEntry) (n : ℕ) (reply : Option Body) → RejectedOnly reply → SomeApproval host entries n reply
rejection_approves host entries n None p = tt
rejection_approves host entries n (Some body) (management, refused, is) =
    let none : reply_of body ≡ Rejects refused.reason = ap reply_of is ∙ rejection_reply management refused in
    subst (DecidedOk host entries n) (sym none) tt

pub record Approving (host : HostSettings) (all : List TerminalSettings) (w : World) : Type 0 where
  pub lawful : Lawful host all w
  pub terminals : (place : ℕ) (s : TerminalState) → slice_get w.terminals place ≡ Some s → ApprovingTerminal host s

-- the replies of an action of the host, at the terminal that gets them
host_does_approving : (host : HostSettings) (all : List TerminalSettings) (w : World) → Approving host all w → (action : HostAction) (added : List HostEntry) (receiver : ℕ) (replies : List Message) → HostDoes w action added receiver replies → (s : TerminalState) → slice_get w.terminals receiver ≡ Some s → AllByRecursion (ApprovalOk host s.settled) replies
host_does_approving host all w a (Answers terminal which moment) added receiver replies (s, message, at, sent, is, to, back) t here =
    let here' : slice_get w.terminals terminal ≡ Some t = subst (λ k. slice_get w.terminals k ≡ Some t) to here in
    let is' : t ≡ s = same_Some t s (sym here' ∙ at) in
    let h = setup_settled host all w a.lawful.inv in
    let ok = all_at (RequestOk s.settled) s.sent which message sent (a.terminals terminal s at).requests in
    let same = answered_is host all w a.lawful.inv w.host.settled h terminal s which message at sent in
    let back' = subst (λ (x : Answered). Replies w.host.settled moment (Read message) x.reply replies) same back in
    rw is' (replies_approving host s.settled w.host.settled moment (Read message) _ replies
    (answer_approving host w.host.settled s.settled terminal message.header.exchange (report_of message.body) h ok
    (accepted_at host all w a.lawful terminal s at which message sent w.host.settled (0, sym (append-nil _)))) back')
host_does_approving host all w a (Answers_foreign received moment) added receiver replies (foreign, is, to, back) t here =
    let r = foreign_is_rejected w.host.settled received foreign in
    replies_approving host t.settled w.host.settled moment received (answer_received w.host.settled received).reply replies (rejection_approves host t.settled (number_of received) (answer_received w.host.settled received).reply r.reply) back
host_does_approving host all w a (Publishes rows) added receiver replies (lt, is, none) t here = rw none tt

host_terminals_approving : (host : HostSettings) (all : List TerminalSettings) (w new : World) (event : Event HostAction) → Approving host all w → HostStep w event new → (place : ℕ) (s : TerminalState) → slice_get new.terminals place ≡ Some s → ApprovingTerminal host s
host_terminals_approving host all w new (Acts action) a (added, receiver, replies, on, does, is) place t at =
    let (s, was, cases) = delivered_cases w.terminals receiver place replies t (rw is at at) in
    let old = a.terminals place s was in
    ⊎_elim
    (λ (same, is').
    let good = host_does_approving host all w a action added receiver replies does s (subst (λ k. slice_get w.terminals k ≡ Some s) same was) in
    subst (ApprovingTerminal host) (sym is') (record {
      requests = old.requests;
      approvals = all_append _ s.answers replies old.approvals good;
      entries = along_weaker _ _ (approved_more host s.answers replies) [] (s.settled ++ s.tried) old.entries;
    }))
    (λ is'. subst (ApprovingTerminal host) (sym is') old)
    cases
host_terminals_approving host all w new (Interrupted action) a (added, receiver, replies, on, does, is) place t at = a.terminals place t (rw is at at)
host_terminals_approving host all w new (Restart kept) a is place t at = a.terminals place t (rw is at at)
host_terminals_approving host all w new (Interrupted_restart (Some kept)) a is place t at = a.terminals place t (rw is at at)
host_terminals_approving host all w new (Interrupted_restart None) a is place t at = a.terminals place t (rw is at at)

step_approving : (host : HostSettings) (all : List TerminalSettings) (w new : World) (happening : Happening) → Approving host all w → Step w happening new → Approving host all new
step_approving host all w new (At_host event) a step =
    record { lawful = step_lawful host all w new (At_host event) a.lawful step; terminals = host_terminals_approving host all w new event a step }
step_approving host all w new (At_terminal place event) a (before, after, at, step, is) =
    record {
      lawful = step_lawful host all w new (At_terminal place event) a.lawful (before, after, at, step, is);
      terminals = λ other t here.
          ⊎_elim
          (λ (same, is'). rw is' (terminal_step_approving host before after event (a.terminals place before at) step))
          (λ was. a.terminals other t was)
          (set_cases w.terminals place other after t (rw is at here));
    }

run_approving : (host : HostSettings) (all : List TerminalSettings) (w new : World) (happenings : List Happening) → Approving host all w → Run w happenings new → Approving host all new
run_approving host all w new [] a is = subst (Approving host all) (sym is) a
run_approving host all w new (happening ∷ happenings) a (next, step, run) = run_approving host all next new happenings (step_approving host all w next happening a step) run

started_approving : (host : HostSettings) (setups : List TerminalSettings) (place : ℕ) (s : TerminalState) → slice_get (map started setups) place ≡ Some s → ApprovingTerminal host s
started_approving host [] place s e = absurd (none-some s e)
started_approving host (setup ∷ setups) zero s e = subst (ApprovingTerminal host) (same_Some _ _ e) (record { requests = tt; approvals = tt; entries = (tt, tt) })
started_approving host (setup ∷ setups) (suc place) s e = started_approving host setups place s e

pub every_completion_is_approved : EveryCompletionIsApproved
every_completion_is_approved host all happenings w match run place s at entries (kept, is) before after n code e =
    let a = run_approving host all (first host all) w happenings (record { lawful = first_lawful host all match; terminals = started_approving host all }) run in
    let t = a.terminals place s at in
    let P : List TermEntry → TermEntry → Type 0 = EntryApproved host s.answers in
    let whole : AllAlong P [] ((s.settled ++ take kept s.tried) ++ drop kept s.tried) = rw (append_assoc, take-append-drop) t.entries in
    along_at P [] before (Completed n code) after (subst (AllAlong P []) (sym is ∙ e) (along_front P [] (s.settled ++ take kept s.tried) (drop kept s.tried) whole))
