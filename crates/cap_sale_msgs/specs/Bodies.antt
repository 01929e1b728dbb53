-- The trees of the bodies of messages on one sale, and the ranges of their numbers.
use Rattle.std.specs.Prelude.{ℕ, Bool, true, List, [], ◌∷◌}
use Rattle.cap_leaf.specs.declared.kinds.Kind.{Kind}
use Rattle.cap_leaf.specs.declared.kinds.Kind.TheVariants.{Caaa001, Caaa002, Caaa003, Caaa004, Caaa005, Caaa006, Caaa007, Caaa008}
use Rattle.cap_leaf.specs.declared.leaf.Leaf.TheVariants as leaf
use Rattle.cap_leaf.specs.Trees.{Data}
use Rattle.cap_fields.specs.Fields.{record_of}
use Rattle.cap_fields.specs.Codes.{response_code}
use Rattle.cap_fields.specs.Refused.{in_digits}
use Rattle.cap_fields.specs.Sales.{sale_tree, void_tree, cancel_tree, chosen}
use Rattle.cap_sale_msgs.specs.declared.body.Ended.{Ended}
use Rattle.cap_sale_msgs.specs.declared.body.Ended.TheVariants.{Sale, Void}
use Rattle.cap_sale_msgs.specs.declared.body.SaleBody.{SaleBody}
use Rattle.cap_sale_msgs.specs.declared.body.SaleBody.TheVariants.{AuthRequest, AuthAnswer, Completion, CompletionAnswer, CancelRequest, CancelAnswer, CancelAdvice, CancelAdviceAnswer}

-- the message of a body
abbrev pub sale_kind : SaleBody → Kind
sale_kind (AuthRequest amount account) = Caaa001
sale_kind (AuthAnswer response code) = Caaa002
sale_kind (Completion ended) = Caaa003
sale_kind (CompletionAnswer response) = Caaa004
sale_kind (CancelRequest amount) = Caaa005
sale_kind (CancelAnswer response) = Caaa006
sale_kind (CancelAdvice n amount) = Caaa007
sale_kind (CancelAdviceAnswer response) = Caaa008

-- its number has at most ten digits
abbrev pub is_ended : Ended → Bool
is_ended (Sale n amount account code) = in_digits 10 n
is_ended (Void n) = in_digits 10 n

-- its numbers have at most ten digits
abbrev pub is_sale_body : SaleBody → Bool
is_sale_body (AuthRequest amount account) = true
is_sale_body (AuthAnswer response code) = true
is_sale_body (Completion ended) = is_ended ended
is_sale_body (CompletionAnswer response) = true
is_sale_body (CancelRequest amount) = true
is_sale_body (CancelAnswer response) = true
is_sale_body (CancelAdvice n amount) = in_digits 10 n
is_sale_body (CancelAdviceAnswer response) = true

-- a completed sale, or one that was given up
abbrev pub ended_tree : Ended → Data
ended_tree (Sale n amount account code) = chosen 0 (sale_tree n amount account code)
ended_tree (Void n) = chosen 1 (void_tree n)

-- the body element
abbrev pub sale_body_tree : SaleBody → Data
sale_body_tree (AuthRequest amount account) = record_of (leaf.Amount amount ∷ leaf.Account account ∷ [])
sale_body_tree (AuthAnswer response code) = record_of (response_code response ∷ leaf.Code6 code ∷ [])
sale_body_tree (Completion ended) = chosen 0 (ended_tree ended)
sale_body_tree (CompletionAnswer response) = record_of (response_code response ∷ [])
sale_body_tree (CancelRequest amount) = record_of (leaf.Amount amount ∷ [])
sale_body_tree (CancelAnswer response) = record_of (response_code response ∷ [])
sale_body_tree (CancelAdvice n amount) = cancel_tree n amount
sale_body_tree (CancelAdviceAnswer response) = record_of (response_code response ∷ [])
