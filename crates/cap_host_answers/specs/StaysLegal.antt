-- What a host's answer adds leaves its journal legal.
use Rattle.std.proofs.Common.{◌≡◌, ℕ, suc, ◌+◌, ◌-◌, ◌<◌, true, List, [], ◌∷◌, ◌++◌, length, take, drop, map, Option, Some, None, refl, sym, ◌∙◌, ap, subst, append_assoc, take-append-drop, arith, eq-eqb, lt-ltb}
use Rattle.std.specs.Prelude.{nat_le, nat_lt, ◌==◌, bytes_eq}
use Rattle.std.proofs.lemmas.Bool.{cond_both, cond-true, false≢true, and_parts, and_from}
use Rattle.std.proofs.lemmas.Option.{none-some, same_Some}
use Rattle.cap_base.specs.declared.item.Item.{Item}
use Rattle.cap_base.specs.Fits.{fits, all_fit}
use Rattle.cap_mgmt_msgs.specs.declared.body.MgmtBody.{MgmtBody}
use Rattle.cap_msgs.specs.declared.message.Body.{Body}
use Rattle.cap_msgs.specs.Report.{Report, Asks_sale, Asks_cancel, Asks_state, Asks_data, Advice, Many, From_host, Unanswered, report_of, is_from_host, is_unanswered}
use Rattle.cap_msgs.specs.Received.{Received, Read, Unread}
use Rattle.cap_entries.specs.Settings.{HostSettings}
use Rattle.cap_entries.specs.declared.host.HostEntry.{HostEntry}
use Rattle.cap_entries.specs.declared.host.HostEntry.TheVariants.{Setup, Took, Published}
use Rattle.cap_entries.specs.Log.{log, published, setup_of}
use Rattle.cap_entries.specs.HostSummaryLaws.{log-push}
use Rattle.cap_entries.specs.HostAllowed.{host_allowed, all_host_allowed, LegalHost}
use Rattle.cap_entries.specs.HostAllowedLaws.{all_host_allowed-append, all_host_allowed_front}
use Rattle.cap_manager.specs.Manager.{answer_status}
use Rattle.cap_host_answers.specs.Answer.{Answered, answer_request, is_approved, item_at, same_item, is_unexpected, answer_advice, agree_so_far, fitting, fresh_items, taken_items, answer_batch, answer_data, answer_report}
use Rattle.cap_host_answers.specs.Received.{place_from, place_of, answer_from, answer_received}

-- the entries of a legal journal are allowed one after another
pub legal_all : (entries : List HostEntry) → LegalHost entries → all_host_allowed [] entries ≡ true
legal_all [] e = absurd (false≢true e)
legal_all (entry ∷ entries) e = e

pub legal_grown : (entries : List HostEntry) (more : List HostEntry) → LegalHost entries → all_host_allowed [] (entries ++ more) ≡ true → LegalHost (entries ++ more)
legal_grown [] more legal ok = absurd (false≢true legal)
legal_grown (first ∷ entries) more legal ok = ok

-- a legal journal begins with its set-up
pub same_setup : (entries : List HostEntry) → LegalHost entries → (more : List HostEntry) → setup_of (entries ++ more) ≡ setup_of entries
same_setup [] legal more = absurd (false≢true legal)
same_setup (Setup settings ∷ entries) legal more = refl
same_setup (Took place item ∷ entries) legal more = refl
same_setup (Published version rows ∷ entries) legal more = refl

-- an item that fits is allowed
took_allowed : (entries : List HostEntry) (place : ℕ) (item : Item) → LegalHost entries → place < length (setup_of entries).terminals → fits (log entries place) item ≡ true → host_allowed entries (Took place item) ≡ true
took_allowed [] place item legal within ok = absurd (false≢true legal)
took_allowed (first ∷ entries) place item legal within ok = and_from (nat_lt place (length (setup_of (first ∷ entries)).terminals)) (fits (log (first ∷ entries) place) item) (lt-ltb place (length (setup_of (first ∷ entries)).terminals) within) ok

log_one : (entries : List HostEntry) (place : ℕ) (item : Item) → log (entries ++ Took place item ∷ []) place ≡ log entries place ++ item ∷ []
log_one entries place item = log-push entries (Took place item) place ∙ ap (λ l. log entries place ++ l) (cond-true (place == place) _ _ (eq-eqb place place refl))

-- items that fit one after another are allowed one after another
pub all_took_allowed : (entries : List HostEntry) (place : ℕ) (items : List Item) → LegalHost entries → place < length (setup_of entries).terminals → all_fit (log entries place) items ≡ true → all_host_allowed entries (map (Took place) items) ≡ true
all_took_allowed entries place [] legal within fit = refl
all_took_allowed entries place (item ∷ items) legal within fit =
    let parts = and_parts (fits (log entries place) item) (all_fit (log entries place ++ item ∷ []) items) fit in
    let here = took_allowed entries place item legal within parts.0 in
    let next : LegalHost (entries ++ Took place item ∷ []) = legal_grown entries (Took place item ∷ []) legal (all_host_allowed-append [] entries (Took place item ∷ []) (legal_all entries legal) (and_from _ _ here refl)) in
    and_from (host_allowed entries (Took place item)) (all_host_allowed (entries ++ Took place item ∷ []) (map (Took place) items)) here
    (all_took_allowed (entries ++ Took place item ∷ []) place items next (subst (λ (s : HostSettings). place < length s.terminals) (sym (same_setup entries legal (Took place item ∷ []))) within) (ap (λ l. all_fit l items) (log_one entries place item) ∙ parts.1))

-- what the log takes of a batch fits
pub fitting_fits : (log items : List Item) → all_fit log (fitting log items) ≡ true
fitting_fits log [] = refl
fitting_fits log (item ∷ items) =
    cond_both (fits log item) _ _ (λ l. all_fit log l ≡ true) (λ e. and_from _ _ e (fitting_fits (log ++ item ∷ []) items)) (λ _. refl)

-- an answer adds items of one terminal, which fit its log one after another
record AddsFitting (place : ℕ) (own : List Item) (answered : Answered) : Type 0 where
  items : List Item
  added : answered.added ≡ map (Took place) items
  fit : all_fit own items ≡ true

adds_none : (place : ℕ) (own : List Item) (answered : Answered) → answered.added ≡ [] → AddsFitting place own answered
adds_none place own answered e = record { items = []; added = e; fit = refl }

advice_fits : (place : ℕ) (own : List Item) (m : ℕ) (item : Item) → AddsFitting place own (answer_advice place own m item)
advice_fits place own m item =
    let P : Answered → Type 0 = AddsFitting place own in
    cond_both (is_unexpected own m) _ _ P (λ _. adds_none place own _ refl)
    (λ _. cond_both (nat_le m (length own)) _ _ P
    (λ _. cond_both (same_item (item_at own m) item) _ _ P (λ _. adds_none place own _ refl) (λ _. adds_none place own _ refl))
    (λ _. cond_both (fits own item) _ _ P
    (λ fit. record { items = item ∷ []; added = refl; fit = and_from _ _ fit refl })
    (λ _. adds_none place own _ refl)))

batch_fits : (place : ℕ) (own : List Item) (x : ℕ) (items : List Item) → AddsFitting place own (answer_batch place own x items)
batch_fits place own x items =
    let P : Answered → Type 0 = AddsFitting place own in
    cond_both (is_unexpected own x) _ _ P (λ _. adds_none place own _ refl)
    (λ _. cond_both (agree_so_far (drop (x - 1) own) items) _ _ P
    (λ _. record { items = taken_items own x items; added = refl; fit = fitting_fits own (fresh_items own x items) })
    (λ _. adds_none place own _ refl))

request_fits : (place : ℕ) (own : List Item) (settings : HostSettings) (number amount : ℕ) (account : List ℕ) → AddsFitting place own (answer_request settings number amount account)
request_fits place own settings number amount account =
    cond_both (is_approved settings amount account) _ _ (AddsFitting place own) (λ _. adds_none place own _ refl) (λ _. adds_none place own _ refl)

data_fits : (place : ℕ) (own : List Item) (given : Option MgmtBody) → AddsFitting place own (answer_data given)
data_fits place own None = adds_none place own _ refl
data_fits place own (Some body) = adds_none place own _ refl

report_fits : (entries : List HostEntry) (place number : ℕ) (report : Report) → AddsFitting place (log entries place) (answer_report entries place number report)
report_fits entries place number (Asks_sale amount account) = request_fits place _ (setup_of entries) number amount account
report_fits entries place number (Asks_cancel amount) = adds_none place _ _ refl
report_fits entries place number Asks_state = adds_none place _ _ refl
report_fits entries place number (Asks_data wanted in_force staged parts) = data_fits place _ (answer_status (published entries) (setup_of entries).start (setup_of entries).poll wanted in_force staged parts)
report_fits entries place number (Advice item) = advice_fits place _ number item
report_fits entries place number (Many items) = batch_fits place _ number items
report_fits entries place number From_host = adds_none place _ _ refl
report_fits entries place number Unanswered = adds_none place _ _ refl

-- a place of the set-up is one
place_within : (from : ℕ) (names : List (List ℕ)) (name : List ℕ) (place : ℕ) → place_from from names name ≡ Some place → place < from + length names
place_within from [] name place e = absurd (none-some place e)
place_within from (other ∷ names) name place e =
    cond_both (bytes_eq other name) (Some from) (place_from (suc from) names name) (λ o. o ≡ Some place → place < from + length (other ∷ names))
    (λ _ is. let same : from ≡ place = same_Some from place is in omega (arith, same))
    (λ _ is. let later : place < suc from + length names = place_within (suc from) names name place is in omega (arith, later))
    e

from_place : (entries : List HostEntry) (place : Option ℕ) (number : ℕ) (body : Body) → LegalHost entries → ((p : ℕ) → place ≡ Some p → p < length (setup_of entries).terminals) → all_host_allowed entries (answer_from entries place number body).added ≡ true
from_place entries None number body legal within = refl
from_place entries (Some place) number body legal within =
    let a = report_fits entries place number (report_of body) in
    rw a.added (all_took_allowed entries place a.items legal (within place refl) a.fit)

-- the entries that an answer adds to legal ones are allowed one after another
pub answer_allowed : (entries : List HostEntry) (received : Received) → LegalHost entries → all_host_allowed entries (answer_received entries received).added ≡ true
answer_allowed entries (Unread fault) legal = refl
answer_allowed entries (Read message) legal =
    let P : Answered → Type 0 = λ a. all_host_allowed entries a.added ≡ true in
    cond_both (is_unanswered (report_of message.body)) _ _ P (λ _. refl)
    (λ _. cond_both (is_from_host (report_of message.body)) _ _ P (λ _. refl)
    (λ _. cond_both (bytes_eq message.header.to (setup_of entries).host) _ _ P
    (λ _. from_place entries (place_of entries message.header.from) message.header.exchange message.body legal (λ p is. let lt = place_within 0 (setup_of entries).terminals message.header.from p is in omega (arith, lt)))
    (λ _. refl)))

-- each front of what is allowed leaves legal entries legal
pub front_legal : (entries added : List HostEntry) (kept : ℕ) → LegalHost entries → all_host_allowed entries added ≡ true → LegalHost (entries ++ take kept added)
front_legal entries added kept legal allowed =
    let whole = all_host_allowed-append [] entries added (legal_all entries legal) allowed in
    let split : all_host_allowed [] ((entries ++ take kept added) ++ drop kept added) ≡ true = rw (append_assoc, take-append-drop) whole in
    legal_grown entries (take kept added) legal (all_host_allowed_front [] (entries ++ take kept added) (drop kept added) split)

-- so what an answer adds, and each front of it, leaves legal entries legal
pub answers_stay_legal : (entries : List HostEntry) (received : Received) (kept : ℕ) → LegalHost entries → LegalHost (entries ++ take kept (answer_received entries received).added)
answers_stay_legal entries received kept legal = front_legal entries (answer_received entries received).added kept legal (answer_allowed entries received legal)
