-- What a message tells a terminal.
use Rattle.std.specs.Prelude.{ℕ, Bool, true, false, List}
use Rattle.cap_base.specs.declared.item.Totals.{Totals}
use Rattle.cap_base.specs.declared.parameters.ConfigPart.{ConfigPart}
use Rattle.cap_base.specs.declared.codes.Response.{Response}
use Rattle.cap_base.specs.declared.codes.Response.TheVariants.{Appr, Decl, Part}
use Rattle.cap_base.specs.declared.codes.Reason.{Reason}
use Rattle.cap_sale_msgs.specs.declared.body.SaleBody.TheVariants.{AuthRequest, AuthAnswer, Completion, CompletionAnswer, CancelRequest, CancelAnswer, CancelAdvice, CancelAdviceAnswer}
use Rattle.cap_batch_msgs.specs.declared.body.BatchBody.TheVariants.{Reconcile, ReconcileAnswer, Batch, BatchAnswer, Diagnostic, DiagnosticAnswer, Rejection}
use Rattle.cap_mgmt_msgs.specs.declared.actions.Action.{Action}
use Rattle.cap_mgmt_msgs.specs.declared.body.MgmtBody.TheVariants.{Status, Plan, Part as Part_body, ManagementRejection}
use Rattle.cap_msgs.specs.declared.message.Body.{Body}
use Rattle.cap_msgs.specs.declared.message.Body.TheVariants.{Sale as Of_sale, Batch as Of_batch, Management as Of_management}

-- the acknowledgement that an answer is
pub data Acknowledgement : Type 0 where
  -- caaa.004, 008, 010, 012
  Of_end : Response → Acknowledgement
  Of_cancel : Response → Acknowledgement
  Of_close : Response → (period : ℕ) → Totals → Acknowledgement
  Of_items : Response → (last : ℕ) → Acknowledgement

pub data Reply : Type 0 where
  -- caaa.015, catm.004
  Rejects : Reason → Reply
  -- caaa.002, 006, 014
  Decides_sale : Response → (code : List ℕ) → Reply
  Decides_cancel : Response → Reply
  Tells_state : (last : ℕ) → Reply
  -- catm.002, 003
  Gives_plan : List Action → Reply
  Gives_part : ConfigPart → Reply
  Acknowledges : Acknowledgement → Reply
  -- what terminals send: caaa.001, 003, 005, 007, 009, 011, 013, catm.001
  From_terminal : Reply

abbrev pub reply_of : Body → Reply
reply_of (Of_sale (AuthRequest amount account)) = From_terminal
reply_of (Of_sale (AuthAnswer response code)) = Decides_sale response code
reply_of (Of_sale (Completion ended)) = From_terminal
reply_of (Of_sale (CompletionAnswer response)) = Acknowledges (Of_end response)
reply_of (Of_sale (CancelRequest amount)) = From_terminal
reply_of (Of_sale (CancelAnswer response)) = Decides_cancel response
reply_of (Of_sale (CancelAdvice n amount)) = From_terminal
reply_of (Of_sale (CancelAdviceAnswer response)) = Acknowledges (Of_cancel response)
reply_of (Of_batch (Reconcile period totals)) = From_terminal
reply_of (Of_batch (ReconcileAnswer response period totals)) = Acknowledges (Of_close response period totals)
reply_of (Of_batch (Batch items)) = From_terminal
reply_of (Of_batch (BatchAnswer response last)) = Acknowledges (Of_items response last)
reply_of (Of_batch (Diagnostic last)) = From_terminal
reply_of (Of_batch (DiagnosticAnswer response last)) = Tells_state last
reply_of (Of_batch (Rejection refused)) = Rejects refused.reason
reply_of (Of_management (Status wanted in_force staged parts)) = From_terminal
reply_of (Of_management (Plan actions)) = Gives_plan actions
reply_of (Of_management (Part_body part)) = Gives_part part
reply_of (Of_management (ManagementRejection refused)) = Rejects refused.reason

-- the response with which an advice is acknowledged, a closing, items in a row
abbrev pub is_approval : Response → Bool
is_approval Appr = true
is_approval _ = false

abbrev pub is_totals_response : Response → Bool
is_totals_response Appr = true
is_totals_response Decl = true
is_totals_response _ = false

abbrev pub is_items_response : Response → Bool
is_items_response Appr = true
is_items_response Part = true
is_items_response _ = false

abbrev pub acknowledges : Acknowledgement → Bool
acknowledges (Of_end response) = is_approval response
acknowledges (Of_cancel response) = is_approval response
acknowledges (Of_close response period totals) = is_totals_response response
acknowledges (Of_items response last) = is_items_response response

-- the number of the last item that it names: that of its exchange, or its own
abbrev pub named_item : ℕ → Acknowledgement → ℕ
named_item number (Of_items response last) = last
named_item number _ = number

-- a closing is answered with the same totals
abbrev pub agrees : Acknowledgement → Bool
agrees (Of_close response period totals) = is_approval response
agrees _ = true

-- the last item that a message names in acknowledging it; 0 where it acknowledges none
abbrev pub reply_item : ℕ → Reply → ℕ
reply_item number (Acknowledges ack) = named_item number ack
reply_item number _ = 0

abbrev pub reply_agrees : Reply → Bool
reply_agrees (Acknowledges ack) = agrees ack
reply_agrees _ = true
