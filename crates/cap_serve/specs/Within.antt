-- A host acknowledges no item that it has not in its log.
use Rattle.std.proofs.Common.{◌≡◌, ℕ, ◌+◌, ◌-◌, ◌≤◌, Bool, true, false, List, [], ◌∷◌, ◌++◌, length, drop, map, Option, Some, None, refl, ◌∙◌, ap, append-nil, length-append, length-take, arith, eq-eqb, ltb-false, leb-true}
use Rattle.std.specs.Prelude.{nat_le, nat_lt, ◌==◌, bytes_eq}
use Rattle.std.proofs.lemmas.Bool.{cond_both, cond-true, or_parts}
use Rattle.cap_base.specs.declared.item.Item.{Item}
use Rattle.cap_base.specs.declared.item.Item.TheVariants.{Sale, Void, Cancel, Close}
use Rattle.cap_base.specs.Fits.{fits}
use Rattle.cap_base.specs.declared.codes.Reason.TheVariants.{Intp, Rcpp, Msgt}
use Rattle.cap_leaf.specs.declared.header.Refused.{Refused}
use Rattle.cap_mgmt_msgs.specs.declared.body.MgmtBody.{MgmtBody}
use Rattle.cap_mgmt_msgs.specs.declared.body.MgmtBody.TheVariants.{Status, Plan, Part as Part_body, ManagementRejection}
use Rattle.cap_msgs.specs.declared.message.Body.{Body}
use Rattle.cap_msgs.specs.Report.{Report, Asks_sale, Asks_cancel, Asks_state, Asks_data, Advice, Many, From_host, Unanswered, report_of, is_from_host, is_unanswered, is_management}
use Rattle.cap_msgs.specs.Reply.{reply_of, reply_item}
use Rattle.cap_msgs.specs.Received.{Received, Read, Unread}
use Rattle.cap_entries.specs.Settings.{HostSettings}
use Rattle.cap_entries.specs.declared.host.HostEntry.{HostEntry}
use Rattle.cap_entries.specs.declared.host.HostEntry.TheVariants.{Took}
use Rattle.cap_entries.specs.Log.{log, published, setup_of}
use Rattle.cap_entries.specs.LogLaws.{log-append}
use Rattle.cap_manager.specs.Manager.{answer_status}
use Rattle.cap_host_answers.specs.Answer.{Answered, answers, refusal, is_approved, answer_request, answer_of_item, item_at, same_item, is_unexpected, answer_advice, agree_so_far, taken_items, answer_batch, answer_data, answer_report}
use Rattle.cap_host_answers.specs.Received.{rejection, place_of, place_or, place_named, number_of, answer_from, answer_received}

-- the last item that a reply acknowledges, none where it is 0, is at most this one
abbrev pub NamesWithin : (last : ℕ) → (number : ℕ) → Option Body → Type 0
NamesWithin last number None = Unit {0}
NamesWithin last number (Some body) = reply_item number (reply_of body) ≤ last

-- the log of a terminal after items of it has as many more
length_took : (place : ℕ) (items : List Item) → length (log (map (Took place) items) place) ≡ length items
length_took place [] = refl
length_took place (item ∷ items) =
    let rest = log (map (Took place) items) place in
    let one : length (log (map (Took place) (item ∷ items)) place) ≡ length ((item ∷ []) ++ rest) =
    ap (λ (l : List Item). length (l ++ rest)) (cond-true (place == place) (item ∷ []) [] (eq-eqb place place refl)) in
    omega (arith, one, length-append (item ∷ []) rest, length_took place items)

took_more : (entries : List HostEntry) (place : ℕ) (items : List Item) → length (log (entries ++ map (Took place) items) place) ≡ length (log entries place) + length items
took_more entries place items =
    ap length (log-append entries (map (Took place) items) place) ∙ (length-append (log entries place) (log (map (Took place) items) place) ∙ ap (λ n. length (log entries place) + n) (length_took place items))

-- what an answer acknowledges stands in the log that it leaves
abbrev pub AnswersWithin : List HostEntry → (place number : ℕ) → Answered → Type 0
AnswersWithin entries place number answered = NamesWithin (length (log (entries ++ answered.added) place)) number answered.reply

-- no number is below 0
nothing : (n : ℕ) → 0 ≤ n
nothing n = omega arith

-- it names an item of the log
names_old : (number : ℕ) (item : Item) (own : List Item) (last : ℕ) → number ≤ last → NamesWithin last number (Some (answer_of_item own item))
names_old number (Sale k amount account code) own last h = h
names_old number (Void k) own last h = h
names_old number (Cancel k amount) own last h = h
names_old number (Close p totals) own last h = h

-- an expected number is at most the next one
next_at_most : (own : List Item) (m : ℕ) → is_unexpected own m ≡ false → m ≤ length own + 1
next_at_most own m e = ltb-false (length own + 1) m (or_parts (m == 0) (nat_lt (length own + 1) m) e).1

advice_within : (entries : List HostEntry) (place m : ℕ) (item : Item) → AnswersWithin entries place m (answer_advice place (log entries place) m item)
advice_within entries place m item =
    let own = log entries place in
    let P : Answered → Type 0 = AnswersWithin entries place m in
    cond_both (is_unexpected own m) _ _ P (λ _. nothing _)
    (λ expected. cond_both (nat_le m (length own)) _ _ P
    (λ le. cond_both (same_item (item_at own m) item) _ _ P
    (λ _. names_old m item own (length (log (entries ++ []) place)) (omega (arith, leb-true m (length own) le, ap (λ (l : List HostEntry). length (log l place)) (append-nil entries))))
    (λ _. nothing _))
    (λ above. cond_both (fits own item) _ _ P
    (λ _. names_old m item (own ++ item ∷ []) (length (log (entries ++ Took place item ∷ []) place)) (omega (arith, next_at_most own m expected, took_more entries place (item ∷ []))))
    (λ _. nothing _)))

batch_within : (entries : List HostEntry) (place x : ℕ) (items : List Item) → AnswersWithin entries place x (answer_batch place (log entries place) x items)
batch_within entries place x items =
    let own = log entries place in
    let P : Answered → Type 0 = AnswersWithin entries place x in
    cond_both (is_unexpected own x) _ _ P (λ _. nothing _)
    (λ expected. cond_both (agree_so_far (drop (x - 1) own) items) _ _ P
    (λ _. omega (arith, next_at_most own x expected, took_more entries place (taken_items own x items), length-take ((length own + 1) - x) items))
    (λ _. nothing _))

request_within : (entries : List HostEntry) (place number : ℕ) (settings : HostSettings) (amount : ℕ) (account : List ℕ) → AnswersWithin entries place number (answer_request settings number amount account)
request_within entries place number settings amount account =
    cond_both (is_approved settings amount account) _ _ (AnswersWithin entries place number) (λ _. nothing _) (λ _. nothing _)

data_within : (entries : List HostEntry) (place number : ℕ) (given : Option MgmtBody) → AnswersWithin entries place number (answer_data given)
data_within entries place number None = nothing _
data_within entries place number (Some (Status wanted in_force staged parts)) = nothing _
data_within entries place number (Some (Plan actions)) = nothing _
data_within entries place number (Some (Part_body part)) = nothing _
data_within entries place number (Some (ManagementRejection refused)) = nothing _

report_within : (entries : List HostEntry) (place number : ℕ) (report : Report) → AnswersWithin entries place number (answer_report entries place number report)
report_within entries place number (Asks_sale amount account) = request_within entries place number (setup_of entries) amount account
report_within entries place number (Asks_cancel amount) = nothing _
report_within entries place number Asks_state = nothing _
report_within entries place number (Asks_data wanted in_force staged parts) = data_within entries place number (answer_status (published entries) (setup_of entries).start (setup_of entries).poll wanted in_force staged parts)
report_within entries place number (Advice item) = advice_within entries place number item
report_within entries place number (Many items) = batch_within entries place number items
report_within entries place number From_host = tt
report_within entries place number Unanswered = tt

-- a rejection acknowledges nothing
rejection_within : (entries : List HostEntry) (place number : ℕ) (management : Bool) (refused : Refused) → AnswersWithin entries place number (answers (rejection management refused))
rejection_within entries place number true refused = nothing _
rejection_within entries place number false refused = nothing _

from_within : (entries : List HostEntry) (place : Option ℕ) (none number : ℕ) (body : Body) → AnswersWithin entries (place_or place none) number (answer_from entries place number body)
from_within entries None none number body = rejection_within entries none number (is_management body) (refusal Intp)
from_within entries (Some place) none number body = report_within entries place number (report_of body)

-- what a host answers to whatever arrives
pub answer_within : (entries : List HostEntry) (received : Received) → AnswersWithin entries (place_named entries received) (number_of received) (answer_received entries received)
answer_within entries (Unread fault) =
    rejection_within entries (place_named entries (Unread fault)) fault.exchange fault.management (record { reason = fault.reason; expected = None; place = Some fault.place })
answer_within entries (Read message) =
    let place = place_named entries (Read message) in
    let number = message.header.exchange in
    let P : Answered → Type 0 = AnswersWithin entries place number in
    cond_both (is_unanswered (report_of message.body)) _ _ P (λ _. tt)
    (λ _. cond_both (is_from_host (report_of message.body)) _ _ P (λ _. rejection_within entries place number (is_management message.body) (refusal Msgt))
    (λ _. cond_both (bytes_eq message.header.to (setup_of entries).host) _ _ P
    (λ _. from_within entries (place_of entries message.header.from) (length (setup_of entries).terminals) number message.body)
    (λ _. rejection_within entries place number (is_management message.body) (refusal Rcpp))))
