-- The bodies of messages on one sale that fit.
use Rattle.std.proofs.Common.{ℕ, suc, ◌+◌, ◌<◌, ◌≤◌, ◌≡◌, Bool, true, false, List, [], ◌∷◌, refl, sym, ap, ◌∙◌, arith, subst}
use Rattle.std.specs.Prelude.{codes}
use Rattle.cap_base.specs.declared.codes.Response.{Response}
use Rattle.cap_leaf.specs.Schema.{Content, Table, leaf, all, one_of, end, row}
use Rattle.cap_leaf.specs.Trees.{Data, Children, value, branch, none, child}
use Rattle.cap_leaf.specs.declared.kinds.Kind.TheVariants.{Caaa001, Caaa002, Caaa003, Caaa004, Caaa005, Caaa006, Caaa007, Caaa008}
use Rattle.cap_trees.specs.Tables.{sale, void, cancel, ended, response}
use Rattle.cap_trees.specs.Fits.{Fits, FitsRows, FitsRow, in_order, a_choice, no_row, this_row, other_row}
use Rattle.cap_fields.specs.Codes.{response_code}
use Rattle.cap_fields.specs.Fields.{record_of}
use Rattle.cap_fields.specs.Refused.{in_digits}
use Rattle.cap_fields.specs.Sales.{sale_tree, void_tree, cancel_tree, chosen}
use Rattle.cap_sale_msgs.specs.declared.body.Ended.{Ended}
use Rattle.cap_sale_msgs.specs.declared.body.Ended.TheVariants.{Sale, Void}
use Rattle.cap_sale_msgs.specs.declared.body.SaleBody.{SaleBody}
use Rattle.cap_sale_msgs.specs.declared.body.SaleBody.TheVariants.{AuthRequest, AuthAnswer, Completion, CompletionAnswer, CancelRequest, CancelAnswer, CancelAdvice, CancelAdviceAnswer}
use Rattle.cap_sale_msgs.specs.Bodies.{sale_kind, is_sale_body, is_ended, ended_tree, sale_body_tree}
use Rattle.cap_sale_msgs.specs.Shapes.{HasSaleShape}
use Rattle.cap_msgs.specs.Shapes.{FitsBody}
use Rattle.cap_msgs.proofs.Inverts.{once_in, ends, chain, put}
use Rattle.cap_msgs.proofs.LeafShapes.{num_in, amount_in, account_in, code6_in, response_in, num_10, amount_fits, account_fits, code6_fits, response_fits}

-- ---- shared structures

pub record IsSale (d : Data) : Type 0 where
  pub n : ℕ
  pub amount : ℕ
  pub account : List ℕ
  pub code : List ℕ
  pub is : d ≡ sale_tree n amount account code
  pub range : in_digits 10 n ≡ true

pub sale_in : {d : Data} → Fits (all sale) d → IsSale d
sale_in (in_order r) =
    let a = once_in (omega arith) (omega arith) r in
    let b = once_in (omega arith) (omega arith) a.left in
    let c = once_in (omega arith) (omega arith) b.left in
    let e = once_in (omega arith) (omega arith) c.left in
    let n = num_in a.fits in
    let amount = amount_in b.fits in
    let account = account_in c.fits in
    let code = code6_in e.fits in
    record {
      n = n.0;
      amount = amount.0;
      account = account.0;
      code = code.0;
      is = ap branch (chain a.is n.1 (chain b.is amount.1 (chain c.is account.1 (chain e.is code.1 (ends e.left)))));
      range = n.2;
    }

pub sale_fits : (n amount : ℕ) (account code : List ℕ) → in_digits 10 n ≡ true → Fits (all sale) (sale_tree n amount account code)
sale_fits n amount account code h = in_order (put (num_10 n h) (put (amount_fits amount) (put (account_fits account) (put (code6_fits code) no_row))))

pub void_in : {d : Data} → Fits (all void) d → (n : ℕ) × (d ≡ void_tree n) × (in_digits 10 n ≡ true)
void_in (in_order r) =
    let a = once_in (omega arith) (omega arith) r in
    let n = num_in a.fits in
    (n.0, ap branch (chain a.is n.1 (ends a.left)), n.2)

pub void_fits : (n : ℕ) → in_digits 10 n ≡ true → Fits (all void) (void_tree n)
void_fits n h = in_order (put (num_10 n h) no_row)

pub cancel_in : {d : Data} → Fits (all cancel) d → (n amount : ℕ) × (d ≡ cancel_tree n amount) × (in_digits 10 n ≡ true)
cancel_in (in_order r) =
    let a = once_in (omega arith) (omega arith) r in
    let b = once_in (omega arith) (omega arith) a.left in
    let n = num_in a.fits in
    let amount = amount_in b.fits in
    (n.0, amount.0, ap branch (chain a.is n.1 (chain b.is amount.1 (ends b.left))), n.2)

pub cancel_fits : (n amount : ℕ) → in_digits 10 n ≡ true → Fits (all cancel) (cancel_tree n amount)
cancel_fits n amount h = in_order (put (num_10 n h) (put (amount_fits amount) no_row))

-- ---- how a sale ended

ended_in : {d : Data} → Fits (one_of ended) d → (e : Ended) × (d ≡ ended_tree e) × (is_ended e ≡ true)
ended_in (a_choice (this_row f)) = let s = sale_in f in (Sale s.n s.amount s.account s.code, ap (chosen 0) s.is, s.range)
ended_in (a_choice (other_row (this_row f))) = let v = void_in f in (Void v.0, ap (chosen 1) v.1, v.2)
ended_in (a_choice (other_row (other_row r))) = elim r [ ]

ended_fits : (e : Ended) → is_ended e ≡ true → Fits (one_of ended) (ended_tree e)
ended_fits (Sale n amount account code) h = a_choice (this_row (sale_fits n amount account code h))
ended_fits (Void n) h = a_choice (other_row (this_row (void_fits n h)))

-- ---- the bodies

-- a structure that is a response alone
answer_in : {d : Data} → Fits (all (response end)) d → (r : Response) × (d ≡ record_of (response_code r ∷ []))
answer_in (in_order r) =
    let a = once_in (omega arith) (omega arith) r in
    let x = response_in a.fits in
    (x.0, ap branch (chain a.is x.1 (ends a.left)))

pub sale_001 : (d : Data) → FitsBody Caaa001 d → HasSaleShape Caaa001 d
sale_001 _ (in_order r) =
    let a = once_in (omega arith) (omega arith) r in
    let b = once_in (omega arith) (omega arith) a.left in
    let x = amount_in a.fits in
    let y = account_in b.fits in
    record { body = AuthRequest x.0 y.0; kind = refl; range = refl; is = ap branch (chain a.is x.1 (chain b.is y.1 (ends b.left))) }

pub sale_002 : (d : Data) → FitsBody Caaa002 d → HasSaleShape Caaa002 d
sale_002 _ (in_order r) =
    let a = once_in (omega arith) (omega arith) r in
    let b = once_in (omega arith) (omega arith) a.left in
    let x = response_in a.fits in
    let y = code6_in b.fits in
    record { body = AuthAnswer x.0 y.0; kind = refl; range = refl; is = ap branch (chain a.is x.1 (chain b.is y.1 (ends b.left))) }

pub sale_003 : (d : Data) → FitsBody Caaa003 d → HasSaleShape Caaa003 d
sale_003 _ (in_order r) =
    let a = once_in (omega arith) (omega arith) r in
    let x = ended_in a.fits in
    record { body = Completion x.0; kind = refl; range = x.2; is = ap branch (chain a.is x.1 (ends a.left)) }

pub sale_004 : (d : Data) → FitsBody Caaa004 d → HasSaleShape Caaa004 d
sale_004 d f = let x = answer_in f in record { body = CompletionAnswer x.0; kind = refl; range = refl; is = x.1 }

pub sale_005 : (d : Data) → FitsBody Caaa005 d → HasSaleShape Caaa005 d
sale_005 _ (in_order r) =
    let a = once_in (omega arith) (omega arith) r in
    let x = amount_in a.fits in
    record { body = CancelRequest x.0; kind = refl; range = refl; is = ap branch (chain a.is x.1 (ends a.left)) }

pub sale_006 : (d : Data) → FitsBody Caaa006 d → HasSaleShape Caaa006 d
sale_006 d f = let x = answer_in f in record { body = CancelAnswer x.0; kind = refl; range = refl; is = x.1 }

pub sale_007 : (d : Data) → FitsBody Caaa007 d → HasSaleShape Caaa007 d
sale_007 d f = let x = cancel_in f in record { body = CancelAdvice x.0 x.1; kind = refl; range = x.3; is = x.2 }

pub sale_008 : (d : Data) → FitsBody Caaa008 d → HasSaleShape Caaa008 d
sale_008 d f = let x = answer_in f in record { body = CancelAdviceAnswer x.0; kind = refl; range = refl; is = x.1 }

pub sale_body_fits : (b : SaleBody) → is_sale_body b ≡ true → FitsBody (sale_kind b) (sale_body_tree b)
sale_body_fits (AuthRequest amount account) h = in_order (put (amount_fits amount) (put (account_fits account) no_row))
sale_body_fits (AuthAnswer answer code) h = in_order (put (response_fits answer) (put (code6_fits code) no_row))
sale_body_fits (Completion e) h = in_order (put (ended_fits e h) no_row)
sale_body_fits (CompletionAnswer answer) h = in_order (put (response_fits answer) no_row)
sale_body_fits (CancelRequest amount) h = in_order (put (amount_fits amount) no_row)
sale_body_fits (CancelAnswer answer) h = in_order (put (response_fits answer) no_row)
sale_body_fits (CancelAdvice n amount) h = cancel_fits n amount h
sale_body_fits (CancelAdviceAnswer answer) h = in_order (put (response_fits answer) no_row)
