-- What a host adds and answers to a message of one of its terminals.
use Rattle.std.specs.Prelude.{ℕ, ◌+◌, ◌-◌, ◌/◌, ◌%◌, Bool, true, false, ◌&&◌, ◌||◌, not, nat_le, nat_lt, ◌==◌, if◌then◌else◌, List, [], ◌∷◌, ◌++◌, length, take, drop, map, Option, Some, None, slice_get, bytes_eq}
use Rattle.std.specs.List.{list_any}
use Rattle.cap_base.specs.declared.item.Item.{Item}
use Rattle.cap_base.specs.declared.item.Item.TheVariants.{Sale, Void, Cancel, Close}
use Rattle.cap_base.specs.declared.codes.Response.{Response}
use Rattle.cap_base.specs.declared.codes.Response.TheVariants.{Appr, Decl, Part}
use Rattle.cap_base.specs.declared.codes.Reason.{Reason}
use Rattle.cap_base.specs.declared.codes.Reason.TheVariants.{Unpr, Dpmg}
use Rattle.cap_base.specs.Item.{is_sale_of, totals_eq, item_eq}
use Rattle.cap_base.specs.Captured.{captured, period_totals}
use Rattle.cap_base.specs.Fits.{fits}
use Rattle.cap_leaf.specs.declared.header.Refused.{Refused}
use Rattle.cap_sale_msgs.specs.declared.body.SaleBody.TheVariants.{AuthAnswer, CompletionAnswer, CancelAnswer, CancelAdviceAnswer}
use Rattle.cap_batch_msgs.specs.declared.body.BatchBody.TheVariants.{ReconcileAnswer, BatchAnswer, DiagnosticAnswer, Rejection}
use Rattle.cap_mgmt_msgs.specs.declared.body.MgmtBody.{MgmtBody}
use Rattle.cap_mgmt_msgs.specs.declared.body.MgmtBody.TheVariants.{ManagementRejection}
use Rattle.cap_msgs.specs.declared.message.Body.{Body}
use Rattle.cap_msgs.specs.declared.message.Body.TheVariants.{Sale as Of_sale, Batch as Of_batch, Management as Of_management}
use Rattle.cap_msgs.specs.Report.{Report, Asks_sale, Asks_cancel, Asks_state, Asks_data, Advice, Many, From_host, Unanswered, report_of}
use Rattle.cap_entries.specs.Settings.{HostSettings}
use Rattle.cap_entries.specs.declared.host.HostEntry.{HostEntry}
use Rattle.cap_entries.specs.declared.host.HostEntry.TheVariants.{Took}
use Rattle.cap_entries.specs.Log.{log, published, setup_of}
use Rattle.cap_manager.specs.Manager.{answer_status}

-- what is added, and the body of the reply, or None where the host is silent
pub record Answered : Type 0 where
  pub added : List HostEntry
  pub reply : Option Body

abbrev pub silent : Answered
silent = record { added = []; reply = None }

-- a reply alone
abbrev pub answers : Body → Answered
answers body = record { added = []; reply = Some body }

abbrev pub refusal : Reason → Refused
refusal reason = record { reason = reason; expected = None; place = None }

-- caaa.015 with the reason alone, and with the number that is expected next
abbrev pub rejected : Reason → Answered
rejected reason = answers (Of_batch (Rejection (refusal reason)))

abbrev pub rejected_expecting : ℕ → Answered
rejected_expecting number = answers (Of_batch (Rejection (record { reason = Unpr; expected = Some number; place = None })))

-- APPR where it holds, else another response
abbrev pub approved_if : Bool → Response → Response
approved_if true other = Appr
approved_if false other = other

-- six digits, the last ones
abbrev pub six_digits : ℕ → List ℕ
six_digits n = (48 + n / 100000 % 10) ∷ (48 + n / 10000 % 10) ∷ (48 + n / 1000 % 10) ∷ (48 + n / 100 % 10) ∷ (48 + n / 10 % 10) ∷ (48 + n % 10) ∷ []

-- the account's first six digits are blocked
abbrev pub is_blocked : List (List ℕ) → List ℕ → Bool
is_blocked blocked account = list_any (bytes_eq (take 6 account)) blocked

abbrev pub is_approved : HostSettings → ℕ → List ℕ → Bool
is_approved settings amount account = nat_le amount settings.limit && not (is_blocked settings.blocked account)

-- may sale n be completed; the code comes from its number and amount
abbrev pub answer_request : HostSettings → ℕ → ℕ → List ℕ → Answered
answer_request settings n amount account =
    if is_approved settings amount account
    then answers (Of_sale (AuthAnswer Appr (six_digits ((n + amount) % 1000000))))
    else answers (Of_sale (AuthAnswer Decl (six_digits 0)))

-- may sale n be cancelled: where it is captured with this amount
abbrev pub answer_cancel_request : List Item → ℕ → ℕ → Answered
answer_cancel_request log n amount = answers (Of_sale (CancelAnswer (approved_if (list_any (is_sale_of n amount) (captured log)) Decl)))

-- the answer of an item that stands in the log
abbrev pub answer_of_item : List Item → Item → Body
answer_of_item log (Sale n amount account code) = Of_sale (CompletionAnswer Appr)
answer_of_item log (Void n) = Of_sale (CompletionAnswer Appr)
answer_of_item log (Cancel n amount) = Of_sale (CancelAdviceAnswer Appr)
answer_of_item log (Close p totals) = Of_batch (ReconcileAnswer (approved_if (totals_eq (period_totals log p) totals) Decl) p (period_totals log p))

-- item m of a list, from 1
abbrev pub item_at : List Item → ℕ → Option Item
item_at items m = if m == 0 then None else slice_get items (m - 1)

abbrev pub same_item : Option Item → Item → Bool
same_item None item = false
same_item (Some other) item = item_eq other item

-- the numbers that a log does not expect: 0, and those past the next one
abbrev pub is_unexpected : List Item → ℕ → Bool
is_unexpected log m = (m == 0) || nat_lt (length log + 1) m

-- an advice of an item with number m: unexpected; there already, the same or another one; the next one, where it fits
abbrev pub answer_advice : ℕ → List Item → ℕ → Item → Answered
answer_advice place log m item =
    if is_unexpected log m then rejected_expecting (length log + 1)
    else (if nat_le m (length log)
    then (if same_item (item_at log m) item then answers (answer_of_item log item) else rejected Dpmg)
    else (if fits log item
    then record { added = Took place item ∷ []; reply = Some (answer_of_item (log ++ item ∷ []) item) }
    else rejected_expecting (length log + 1)))

-- two lists are equal as far as both go
abbrev pub agree_so_far : List Item → List Item → Bool
agree_so_far [] items = true
agree_so_far (other ∷ others) [] = true
agree_so_far (other ∷ others) (item ∷ items) = item_eq other item && agree_so_far others items

-- the items up to the first that does not fit
abbrev pub fitting : List Item → List Item → List Item
fitting log [] = []
fitting log (item ∷ items) = if fits log item then item ∷ fitting (log ++ item ∷ []) items else []

-- of a batch from number x: the items that are new, and those that the log takes
abbrev pub fresh_items : List Item → ℕ → List Item → List Item
fresh_items log x items = drop ((length log + 1) - x) items

abbrev pub taken_items : List Item → ℕ → List Item → List Item
taken_items log x items = fitting log (fresh_items log x items)

-- how many items of the batch then stand in the log
abbrev pub standing : List Item → ℕ → List Item → ℕ
standing log x items = length (take ((length log + 1) - x) items) + length (taken_items log x items)

-- a batch from number x: unexpected; an item differs from the one that is there; else what fits is taken
abbrev pub answer_batch : ℕ → List Item → ℕ → List Item → Answered
answer_batch place log x items =
    if is_unexpected log x then rejected_expecting (length log + 1)
    else (if agree_so_far (drop (x - 1) log) items
    then record {
      added = map (Took place) (taken_items log x items);
      reply = Some (Of_batch (BatchAnswer (approved_if (standing log x items == length items) Part) ((x + standing log x items) - 1)));
    }
    else rejected Dpmg)

-- what the manager gives, or catm.004
abbrev pub answer_data : Option MgmtBody → Answered
answer_data (Some body) = answers (Of_management body)
answer_data None = answers (Of_management (ManagementRejection (refusal Unpr)))

-- what the terminal at this place reports under this number; what hosts send and what nobody answers is no report of a terminal
abbrev pub answer_report : List HostEntry → (place number : ℕ) → Report → Answered
answer_report entries place number (Asks_sale amount account) = answer_request (setup_of entries) number amount account
answer_report entries place number (Asks_cancel amount) = answer_cancel_request (log entries place) number amount
answer_report entries place number Asks_state = answers (Of_batch (DiagnosticAnswer Appr (length (log entries place))))
answer_report entries place number (Asks_data wanted in_force staged parts) = answer_data (answer_status (published entries) (setup_of entries).start (setup_of entries).poll wanted in_force staged parts)
answer_report entries place number (Advice item) = answer_advice place (log entries place) number item
answer_report entries place number (Many items) = answer_batch place (log entries place) number items
answer_report entries place number From_host = silent
answer_report entries place number Unanswered = silent

-- the answer to a message of the terminal at this place, to this host
abbrev pub answer_of : List HostEntry → (place number : ℕ) → Body → Answered
answer_of entries place number body = answer_report entries place number (report_of body)
