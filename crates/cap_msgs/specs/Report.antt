-- What a message tells a host or asks of it.
use Rattle.std.specs.Prelude.{ℕ, Bool, true, false, List}
use Rattle.cap_base.specs.declared.item.Item.{Item}
use Rattle.cap_base.specs.declared.item.Item.TheVariants.{Sale, Void, Cancel, Close}
use Rattle.cap_base.specs.declared.codes.DataSet.{DataSet}
use Rattle.cap_sale_msgs.specs.declared.body.Ended.{Ended}
use Rattle.cap_sale_msgs.specs.declared.body.Ended.TheVariants.{Sale as Ended_sale, Void as Ended_void}
use Rattle.cap_sale_msgs.specs.declared.body.SaleBody.TheVariants.{AuthRequest, AuthAnswer, Completion, CompletionAnswer, CancelRequest, CancelAnswer, CancelAdvice, CancelAdviceAnswer}
use Rattle.cap_batch_msgs.specs.declared.body.BatchBody.TheVariants.{Reconcile, ReconcileAnswer, Batch, BatchAnswer, Diagnostic, DiagnosticAnswer, Rejection}
use Rattle.cap_mgmt_msgs.specs.declared.body.MgmtBody.TheVariants.{Status, Plan, Part as Part_body, ManagementRejection}
use Rattle.cap_msgs.specs.declared.message.Body.{Body}
use Rattle.cap_msgs.specs.declared.message.Body.TheVariants.{Sale as Of_sale, Batch as Of_batch, Management as Of_management}

pub data Report : Type 0 where
  -- caaa.001: may a sale of this amount and account be completed
  Asks_sale : (amount : ℕ) → (account : List ℕ) → Report
  -- caaa.005: may a sale of this amount be cancelled
  Asks_cancel : (amount : ℕ) → Report
  -- caaa.013: how far is the host
  Asks_state : Report
  -- catm.001: which data are new
  Asks_data : (wanted : DataSet) → (in_force staged parts : ℕ) → Report
  -- caaa.003, 007, 009: an item
  Advice : Item → Report
  -- caaa.011: items in a row
  Many : List Item → Report
  -- what hosts send: caaa.002, 004, 006, 008, 010, 012, 014, catm.002, 003
  From_host : Report
  -- caaa.015, catm.004
  Unanswered : Report

-- the item that a completion advice reports
abbrev pub ended_item : Ended → Item
ended_item (Ended_sale n amount account code) = Sale n amount account code
ended_item (Ended_void n) = Void n

abbrev pub report_of : Body → Report
report_of (Of_sale (AuthRequest amount account)) = Asks_sale amount account
report_of (Of_sale (AuthAnswer response code)) = From_host
report_of (Of_sale (Completion ended)) = Advice (ended_item ended)
report_of (Of_sale (CompletionAnswer response)) = From_host
report_of (Of_sale (CancelRequest amount)) = Asks_cancel amount
report_of (Of_sale (CancelAnswer response)) = From_host
report_of (Of_sale (CancelAdvice n amount)) = Advice (Cancel n amount)
report_of (Of_sale (CancelAdviceAnswer response)) = From_host
report_of (Of_batch (Reconcile period totals)) = Advice (Close period totals)
report_of (Of_batch (ReconcileAnswer response period totals)) = From_host
report_of (Of_batch (Batch items)) = Many items
report_of (Of_batch (BatchAnswer response last)) = From_host
report_of (Of_batch (Diagnostic last)) = Asks_state
report_of (Of_batch (DiagnosticAnswer response last)) = From_host
report_of (Of_batch (Rejection refused)) = Unanswered
report_of (Of_management (Status wanted in_force staged parts)) = Asks_data wanted in_force staged parts
report_of (Of_management (Plan actions)) = From_host
report_of (Of_management (Part_body part)) = From_host
report_of (Of_management (ManagementRejection refused)) = Unanswered

abbrev pub is_from_host : Report → Bool
is_from_host From_host = true
is_from_host _ = false

abbrev pub is_unanswered : Report → Bool
is_unanswered Unanswered = true
is_unanswered _ = false

-- a catm message
abbrev pub is_management : Body → Bool
is_management (Of_management body) = true
is_management _ = false

-- the body of the message that reports an item
abbrev pub advice_of : Item → Body
advice_of (Sale n amount account code) = Of_sale (Completion (Ended_sale n amount account code))
advice_of (Void n) = Of_sale (Completion (Ended_void n))
advice_of (Cancel n amount) = Of_sale (CancelAdvice n amount)
advice_of (Close p totals) = Of_batch (Reconcile p totals)
