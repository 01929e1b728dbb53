-- Which leaves fit which kinds.
use Rattle.std.proofs.Common.{ℕ, zero, suc, ◌+◌, ◌<◌, ◌≤◌, ◌^◌, ◌≡◌, Bool, true, false, List, [], ◌∷◌, length, refl, sym, ap, ◌∙◌, arith, subst, rules, nat_lt}
use Rattle.std.specs.Prelude.{◌&&◌}
use Rattle.cap_base.specs.declared.codes.Response.{Response}
use Rattle.cap_base.specs.declared.codes.Response.TheVariants.{Appr, Decl, Part, Tech}
use Rattle.cap_base.specs.declared.codes.Reason.{Reason}
use Rattle.cap_base.specs.declared.codes.Reason.TheVariants.{Unpr, Imsg, Pars, Secu, Intp, Rcpp, Dpmg, Vers, Msgt}
use Rattle.cap_base.specs.declared.codes.DataSet.{DataSet}
use Rattle.cap_base.specs.declared.codes.DataSet.TheVariants.{Aqpr, Mgtp, Strp}
use Rattle.cap_base.specs.declared.codes.PlanAct.{PlanAct}
use Rattle.cap_base.specs.declared.codes.PlanAct.TheVariants.{Dwnl, Upld}
use Rattle.cap_leaf.specs.Date.{DateParts}
use Rattle.cap_leaf.specs.Codes.{codes_of}
use Rattle.cap_leaf.specs.Schema.{Content, leaf as leaf_content}
use Rattle.cap_leaf.specs.Spelling.{is_kind, is_leaf, IsLeafOf}
use Rattle.cap_leaf.specs.Trees.{Data, value}
use Rattle.cap_leaf.specs.declared.kinds.CodeList.{CodeList}
use Rattle.cap_leaf.specs.declared.kinds.CodeList.TheVariants as list
use Rattle.cap_leaf.specs.declared.kinds.LeafKind.{LeafKind}
use Rattle.cap_leaf.specs.declared.kinds.LeafKind.TheVariants as kind
use Rattle.cap_leaf.specs.declared.leaf.Leaf.{Leaf}
use Rattle.cap_leaf.specs.declared.leaf.Leaf.TheVariants as leaf
use Rattle.cap_trees.specs.Fits.{Fits, a_leaf}
use Rattle.cap_fields.specs.Codes.{response_place, response_code, reason_place, reason_code, set_place, wanted_code, set_code, act_place, act_code}
use Rattle.cap_fields.specs.Refused.{in_digits}
use Rattle.cap_mgmt_msgs.specs.Bodies.{is_wanted}
use Rattle.cap_msgs.proofs.Inverts.{both}

pub below : (n m : ℕ) → n < m → nat_lt n m ≡ true
below n m h = search rules

pub is_below : (n m : ℕ) → nat_lt n m ≡ true → n < m
is_below n m e = search rules

-- ---- numbers and texts

num_of : (m : ℕ) (x : Leaf) → IsLeafOf (kind.Num m) x → (n : ℕ) × (value x ≡ value (leaf.Num n)) × (in_digits m n ≡ true)
num_of m (leaf.Num n) h = (n, refl, below n (10 ^ m) h)
num_of m (leaf.Amount n) h = absurd h
num_of m (leaf.Sum n) h = absurd h
num_of m (leaf.Ident t) h = absurd h
num_of m (leaf.Account t) h = absurd h
num_of m (leaf.Code6 t) h = absurd h
num_of m (leaf.DateTime d) h = absurd h
num_of m (leaf.Code l at) h = absurd h

pub num_in : {m : ℕ} {d : Data} → Fits (leaf_content (kind.Num m)) d → (n : ℕ) × (d ≡ value (leaf.Num n)) × (in_digits m n ≡ true)
num_in {m} (a_leaf {x = x} i h r) = num_of m x h

sum_of : (x : Leaf) → IsLeafOf kind.Sum x → is_leaf x ≡ true → (n : ℕ) × (value x ≡ value (leaf.Sum n)) × (in_digits 19 n ≡ true)
sum_of (leaf.Sum n) h r = (n, refl, r)
sum_of (leaf.Num n) h r = absurd h
sum_of (leaf.Amount n) h r = absurd h
sum_of (leaf.Ident t) h r = absurd h
sum_of (leaf.Account t) h r = absurd h
sum_of (leaf.Code6 t) h r = absurd h
sum_of (leaf.DateTime d) h r = absurd h
sum_of (leaf.Code l at) h r = absurd h

pub sum_in : {d : Data} → Fits (leaf_content kind.Sum) d → (n : ℕ) × (d ≡ value (leaf.Sum n)) × (in_digits 19 n ≡ true)
sum_in (a_leaf {x = x} i h r) = sum_of x h r

amount_of : (x : Leaf) → IsLeafOf kind.Amount x → (v : ℕ) × (value x ≡ value (leaf.Amount v))
amount_of (leaf.Amount v) h = (v, refl)
amount_of (leaf.Num n) h = absurd h
amount_of (leaf.Sum n) h = absurd h
amount_of (leaf.Ident t) h = absurd h
amount_of (leaf.Account t) h = absurd h
amount_of (leaf.Code6 t) h = absurd h
amount_of (leaf.DateTime d) h = absurd h
amount_of (leaf.Code l at) h = absurd h

pub amount_in : {d : Data} → Fits (leaf_content kind.Amount) d → (v : ℕ) × (d ≡ value (leaf.Amount v))
amount_in (a_leaf {x = x} i h r) = amount_of x h

ident_of : (x : Leaf) → IsLeafOf kind.Ident x → (v : List ℕ) × (value x ≡ value (leaf.Ident v))
ident_of (leaf.Ident v) h = (v, refl)
ident_of (leaf.Num n) h = absurd h
ident_of (leaf.Amount n) h = absurd h
ident_of (leaf.Sum n) h = absurd h
ident_of (leaf.Account t) h = absurd h
ident_of (leaf.Code6 t) h = absurd h
ident_of (leaf.DateTime d) h = absurd h
ident_of (leaf.Code l at) h = absurd h

pub ident_in : {d : Data} → Fits (leaf_content kind.Ident) d → (v : List ℕ) × (d ≡ value (leaf.Ident v))
ident_in (a_leaf {x = x} i h r) = ident_of x h

account_of : (x : Leaf) → IsLeafOf kind.Account x → (v : List ℕ) × (value x ≡ value (leaf.Account v))
account_of (leaf.Account v) h = (v, refl)
account_of (leaf.Num n) h = absurd h
account_of (leaf.Amount n) h = absurd h
account_of (leaf.Sum n) h = absurd h
account_of (leaf.Ident t) h = absurd h
account_of (leaf.Code6 t) h = absurd h
account_of (leaf.DateTime d) h = absurd h
account_of (leaf.Code l at) h = absurd h

pub account_in : {d : Data} → Fits (leaf_content kind.Account) d → (v : List ℕ) × (d ≡ value (leaf.Account v))
account_in (a_leaf {x = x} i h r) = account_of x h

code6_of : (x : Leaf) → IsLeafOf kind.Code6 x → (v : List ℕ) × (value x ≡ value (leaf.Code6 v))
code6_of (leaf.Code6 v) h = (v, refl)
code6_of (leaf.Num n) h = absurd h
code6_of (leaf.Amount n) h = absurd h
code6_of (leaf.Sum n) h = absurd h
code6_of (leaf.Ident t) h = absurd h
code6_of (leaf.Account t) h = absurd h
code6_of (leaf.DateTime d) h = absurd h
code6_of (leaf.Code l at) h = absurd h

pub code6_in : {d : Data} → Fits (leaf_content kind.Code6) d → (v : List ℕ) × (d ≡ value (leaf.Code6 v))
code6_in (a_leaf {x = x} i h r) = code6_of x h

date_of : (x : Leaf) → IsLeafOf kind.DateTime x → (v : DateParts) × (value x ≡ value (leaf.DateTime v))
date_of (leaf.DateTime v) h = (v, refl)
date_of (leaf.Num n) h = absurd h
date_of (leaf.Amount n) h = absurd h
date_of (leaf.Sum n) h = absurd h
date_of (leaf.Ident t) h = absurd h
date_of (leaf.Account t) h = absurd h
date_of (leaf.Code6 t) h = absurd h
date_of (leaf.Code l at) h = absurd h

pub date_in : {d : Data} → Fits (leaf_content kind.DateTime) d → (v : DateParts) × (d ≡ value (leaf.DateTime v))
date_in (a_leaf {x = x} i h r) = date_of x h

-- ---- codes

code_of : (l : CodeList) (x : Leaf) → IsLeafOf (kind.Code l) x → is_leaf x ≡ true → (at : ℕ) × (value x ≡ value (leaf.Code l at)) × (at < length (codes_of l))
code_of l (leaf.Code m at) h r =
    (at, ap (λ k. value (leaf.Code k at)) h, let P : CodeList → Type 0 = λ k. at < length (codes_of k) in subst P h (is_below at (length (codes_of m)) (both _ _ r).1))
code_of l (leaf.Num n) h r = absurd h
code_of l (leaf.Amount n) h r = absurd h
code_of l (leaf.Sum n) h r = absurd h
code_of l (leaf.Ident t) h r = absurd h
code_of l (leaf.Account t) h r = absurd h
code_of l (leaf.Code6 t) h r = absurd h
code_of l (leaf.DateTime d) h r = absurd h

pub code_in : {l : CodeList} {d : Data} → Fits (leaf_content (kind.Code l)) d → (at : ℕ) × (d ≡ value (leaf.Code l at)) × (at < length (codes_of l))
code_in {l} (a_leaf {x = x} i h r) = code_of l x h r

-- a list of one code
pub only : (at : ℕ) → at < 1 → at ≡ 0
only at h = omega arith

response_by : (at : ℕ) → at < 4 → (v : Response) × (at ≡ response_place v)
response_by zero h = (Appr, refl)
response_by (suc zero) h = (Decl, refl)
response_by (suc (suc zero)) h = (Part, refl)
response_by (suc (suc (suc zero))) h = (Tech, refl)
response_by (suc (suc (suc (suc n)))) h = absurd (let e : ⊥ = omega arith in e)

pub response_in : {d : Data} → Fits (leaf_content (kind.Code list.Response)) d → (v : Response) × (d ≡ value (response_code v))
response_in f = let c = code_in f in let v = response_by c.0 c.2 in (v.0, c.1 ∙ ap (λ n. value (leaf.Code list.Response n)) v.1)

reason_by : (at : ℕ) → at < 9 → (v : Reason) × (at ≡ reason_place v)
reason_by zero h = (Unpr, refl)
reason_by (suc zero) h = (Imsg, refl)
reason_by (suc (suc zero)) h = (Pars, refl)
reason_by (suc (suc (suc zero))) h = (Secu, refl)
reason_by (suc (suc (suc (suc zero)))) h = (Intp, refl)
reason_by (suc (suc (suc (suc (suc zero))))) h = (Rcpp, refl)
reason_by (suc (suc (suc (suc (suc (suc zero)))))) h = (Dpmg, refl)
reason_by (suc (suc (suc (suc (suc (suc (suc zero))))))) h = (Vers, refl)
reason_by (suc (suc (suc (suc (suc (suc (suc (suc zero)))))))) h = (Msgt, refl)
reason_by (suc (suc (suc (suc (suc (suc (suc (suc (suc n))))))))) h = absurd (let e : ⊥ = omega arith in e)

pub reason_in : {d : Data} → Fits (leaf_content (kind.Code list.Reason)) d → (v : Reason) × (d ≡ value (reason_code v))
reason_in f = let c = code_in f in let v = reason_by c.0 c.2 in (v.0, c.1 ∙ ap (λ n. value (leaf.Code list.Reason n)) v.1)

set_by : (at : ℕ) → at < 3 → (v : DataSet) × (at ≡ set_place v)
set_by zero h = (Aqpr, refl)
set_by (suc zero) h = (Mgtp, refl)
set_by (suc (suc zero)) h = (Strp, refl)
set_by (suc (suc (suc n))) h = absurd (let e : ⊥ = omega arith in e)

pub set_in : {d : Data} → Fits (leaf_content (kind.Code list.AnySet)) d → (v : DataSet) × (d ≡ value (set_code v))
set_in f = let c = code_in f in let v = set_by c.0 c.2 in (v.0, c.1 ∙ ap (λ n. value (leaf.Code list.AnySet n)) v.1)

wanted_by : (at : ℕ) → at < 2 → (v : DataSet) × (at ≡ set_place v) × (is_wanted v ≡ true)
wanted_by zero h = (Aqpr, refl, refl)
wanted_by (suc zero) h = (Mgtp, refl, refl)
wanted_by (suc (suc n)) h = absurd (let e : ⊥ = omega arith in e)

pub wanted_in : {d : Data} → Fits (leaf_content (kind.Code list.Wanted)) d → (v : DataSet) × (d ≡ value (wanted_code v)) × (is_wanted v ≡ true)
wanted_in f = let c = code_in f in let v = wanted_by c.0 c.2 in (v.0, c.1 ∙ ap (λ n. value (leaf.Code list.Wanted n)) v.1, v.2)

act_by : (at : ℕ) → at < 2 → (v : PlanAct) × (at ≡ act_place v)
act_by zero h = (Dwnl, refl)
act_by (suc zero) h = (Upld, refl)
act_by (suc (suc n)) h = absurd (let e : ⊥ = omega arith in e)

pub act_in : {d : Data} → Fits (leaf_content (kind.Code list.Act)) d → (v : PlanAct) × (d ≡ value (act_code v))
act_in f = let c = code_in f in let v = act_by c.0 c.2 in (v.0, c.1 ∙ ap (λ n. value (leaf.Code list.Act n)) v.1)

-- ---- leaves that fit

pub num_10 : (n : ℕ) → in_digits 10 n ≡ true → Fits (leaf_content (kind.Num 10)) (value (leaf.Num n))
num_10 n h = a_leaf refl (is_below n (10 ^ 10) h) h

pub num_6 : (n : ℕ) → in_digits 6 n ≡ true → Fits (leaf_content (kind.Num 6)) (value (leaf.Num n))
num_6 n h = let l = is_below n (10 ^ 6) h in a_leaf refl l (below n (10 ^ 10) (omega (arith, l)))

pub num_3 : (n : ℕ) → in_digits 3 n ≡ true → Fits (leaf_content (kind.Num 3)) (value (leaf.Num n))
num_3 n h = let l = is_below n (10 ^ 3) h in a_leaf refl l (below n (10 ^ 10) (omega (arith, l)))

pub sum_fits : (n : ℕ) → in_digits 19 n ≡ true → Fits (leaf_content kind.Sum) (value (leaf.Sum n))
sum_fits n h = a_leaf refl tt h

pub amount_fits : (v : ℕ) → Fits (leaf_content kind.Amount) (value (leaf.Amount v))
amount_fits v = a_leaf refl tt refl

pub ident_fits : (v : List ℕ) → Fits (leaf_content kind.Ident) (value (leaf.Ident v))
ident_fits v = a_leaf refl tt refl

pub account_fits : (v : List ℕ) → Fits (leaf_content kind.Account) (value (leaf.Account v))
account_fits v = a_leaf refl tt refl

pub code6_fits : (v : List ℕ) → Fits (leaf_content kind.Code6) (value (leaf.Code6 v))
code6_fits v = a_leaf refl tt refl

pub date_fits : (v : DateParts) → Fits (leaf_content kind.DateTime) (value (leaf.DateTime v))
date_fits v = a_leaf refl tt refl

pub response_fits : (v : Response) → Fits (leaf_content (kind.Code list.Response)) (value (response_code v))
response_fits Appr = a_leaf refl refl refl
response_fits Decl = a_leaf refl refl refl
response_fits Part = a_leaf refl refl refl
response_fits Tech = a_leaf refl refl refl

pub reason_fits : (v : Reason) → Fits (leaf_content (kind.Code list.Reason)) (value (reason_code v))
reason_fits Unpr = a_leaf refl refl refl
reason_fits Imsg = a_leaf refl refl refl
reason_fits Pars = a_leaf refl refl refl
reason_fits Secu = a_leaf refl refl refl
reason_fits Intp = a_leaf refl refl refl
reason_fits Rcpp = a_leaf refl refl refl
reason_fits Dpmg = a_leaf refl refl refl
reason_fits Vers = a_leaf refl refl refl
reason_fits Msgt = a_leaf refl refl refl

pub set_fits : (v : DataSet) → Fits (leaf_content (kind.Code list.AnySet)) (value (set_code v))
set_fits Aqpr = a_leaf refl refl refl
set_fits Mgtp = a_leaf refl refl refl
set_fits Strp = a_leaf refl refl refl

pub act_fits : (v : PlanAct) → Fits (leaf_content (kind.Code list.Act)) (value (act_code v))
act_fits Dwnl = a_leaf refl refl refl
act_fits Upld = a_leaf refl refl refl

pub wanted_fits : (v : DataSet) → is_wanted v ≡ true → Fits (leaf_content (kind.Code list.Wanted)) (value (wanted_code v))
wanted_fits Aqpr h = a_leaf refl refl refl
wanted_fits Mgtp h = a_leaf refl refl refl
wanted_fits Strp h = cc
