-- A body and its tree are one to one.
use Rattle.std.proofs.Common.{◌≡◌, Some, refl, sym, ap, ◌∙◌}
use Rattle.std.specs.Prelude.{option_and_then}
use Rattle.cap_fields.proofs.Back.{response_back}
use Rattle.cap_fields.proofs.Repeats.{some_same}
use Rattle.cap_sale_msgs.specs.declared.body.Ended.TheVariants.{Sale, Void}
use Rattle.cap_sale_msgs.specs.declared.body.SaleBody.{SaleBody}
use Rattle.cap_sale_msgs.specs.declared.body.SaleBody.TheVariants.{AuthRequest, AuthAnswer, Completion, CompletionAnswer, CancelRequest, CancelAnswer, CancelAdvice, CancelAdviceAnswer}
use Rattle.cap_sale_msgs.specs.Bodies.{sale_kind, sale_body_tree}
use Rattle.cap_sale_msgs.specs.Reading.{sale_body_in}

-- a body is read back from its tree
pub body_back : (b : SaleBody) → sale_body_in (sale_kind b) (sale_body_tree b) ≡ Some b
body_back (AuthRequest amount account) = refl
body_back (AuthAnswer response code) = ap (option_and_then (λ r. Some (AuthAnswer r code))) (response_back response)
body_back (Completion (Sale n amount account code)) = refl
body_back (Completion (Void n)) = refl
body_back (CompletionAnswer response) = ap (option_and_then (λ r. Some (CompletionAnswer r))) (response_back response)
body_back (CancelRequest amount) = refl
body_back (CancelAnswer response) = ap (option_and_then (λ r. Some (CancelAnswer r))) (response_back response)
body_back (CancelAdvice n amount) = refl
body_back (CancelAdviceAnswer response) = ap (option_and_then (λ r. Some (CancelAdviceAnswer r))) (response_back response)

pub same_body : (a b : SaleBody) → sale_kind a ≡ sale_kind b → sale_body_tree a ≡ sale_body_tree b → a ≡ b
same_body a b k t =
    some_same a b (sym (body_back a) ∙ ap (λ j. sale_body_in j (sale_body_tree a)) k ∙ ap (sale_body_in (sale_kind b)) t ∙ body_back b)
