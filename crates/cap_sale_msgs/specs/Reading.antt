-- The body that a body element tells, field by field.
use Rattle.std.specs.Prelude.{ℕ, List, Option, Some, None, option_map, option_and_then}
use Rattle.cap_base.specs.declared.codes.Response.{Response}
use Rattle.cap_leaf.specs.declared.kinds.Kind.{Kind}
use Rattle.cap_leaf.specs.declared.kinds.Kind.TheVariants.{Caaa001, Caaa002, Caaa003, Caaa004, Caaa005, Caaa006, Caaa007, Caaa008}
use Rattle.cap_leaf.specs.Trees.{Data}
use Rattle.cap_fields.specs.Fields.{child_in, num_in, amount_in, account_in, code6_in}
use Rattle.cap_fields.specs.Codes.{response_in}
use Rattle.cap_sale_msgs.specs.declared.body.Ended.{Ended}
use Rattle.cap_sale_msgs.specs.declared.body.Ended.TheVariants.{Sale, Void}
use Rattle.cap_sale_msgs.specs.declared.body.SaleBody.{SaleBody}
use Rattle.cap_sale_msgs.specs.declared.body.SaleBody.TheVariants.{AuthRequest, AuthAnswer, Completion, CompletionAnswer, CancelRequest, CancelAnswer, CancelAdvice, CancelAdviceAnswer}

abbrev pub auth_request_in : Data → Option SaleBody
auth_request_in d = option_and_then (λ amount. option_and_then (λ account. Some (AuthRequest amount account)) (account_in d 1)) (amount_in d 0)

abbrev pub auth_answer_in : Data → Option SaleBody
auth_answer_in d = option_and_then (λ response. option_and_then (λ code. Some (AuthAnswer response code)) (code6_in d 1)) (response_in d 0)

abbrev pub ended_sale_in : Data → Option Ended
ended_sale_in d =
    option_and_then (λ n. option_and_then (λ amount. option_and_then (λ account. option_and_then (λ code. Some (Sale n amount account code))
    (code6_in d 3)) (account_in d 2)) (amount_in d 1)) (num_in d 0)

abbrev pub ended_void_in : Data → Option Ended
ended_void_in d = option_and_then (λ n. Some (Void n)) (num_in d 0)

-- by what stands in the rows of a completed sale and of one that was given up
abbrev pub ended_by : Option Data → Option Data → Option Ended
ended_by (Some sale) void = ended_sale_in sale
ended_by None (Some void) = ended_void_in void
ended_by None None = None

abbrev pub ended_in : Data → Option Ended
ended_in d = ended_by (child_in d 0) (child_in d 1)

abbrev pub completion_in : Data → Option SaleBody
completion_in d = option_and_then (λ tx. option_and_then (λ ended. Some (Completion ended)) (ended_in tx)) (child_in d 0)

abbrev pub cancel_request_in : Data → Option SaleBody
cancel_request_in d = option_and_then (λ amount. Some (CancelRequest amount)) (amount_in d 0)

abbrev pub cancel_advice_in : Data → Option SaleBody
cancel_advice_in d = option_and_then (λ n. option_and_then (λ amount. Some (CancelAdvice n amount)) (amount_in d 1)) (num_in d 0)

abbrev pub answer_in : (Response → SaleBody) → Data → Option SaleBody
answer_in answer d = option_and_then (λ response. Some (answer response)) (response_in d 0)

abbrev pub sale_body_in : Kind → Data → Option SaleBody
sale_body_in Caaa001 d = auth_request_in d
sale_body_in Caaa002 d = auth_answer_in d
sale_body_in Caaa003 d = completion_in d
sale_body_in Caaa004 d = answer_in CompletionAnswer d
sale_body_in Caaa005 d = cancel_request_in d
sale_body_in Caaa006 d = answer_in CancelAnswer d
sale_body_in Caaa007 d = cancel_advice_in d
sale_body_in Caaa008 d = answer_in CancelAdviceAnswer d
sale_body_in _ d = None
