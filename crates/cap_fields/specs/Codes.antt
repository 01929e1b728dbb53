-- Codes by their places in their lists.
use Rattle.std.specs.Prelude.{ℕ, zero, suc, Option, Some, None, option_and_then}
use Rattle.cap_base.specs.declared.codes.Response.{Response}
use Rattle.cap_base.specs.declared.codes.Response.TheVariants.{Appr, Decl, Part, Tech}
use Rattle.cap_base.specs.declared.codes.Reason.{Reason}
use Rattle.cap_base.specs.declared.codes.Reason.TheVariants.{Unpr, Imsg, Pars, Secu, Intp, Rcpp, Dpmg, Vers, Msgt}
use Rattle.cap_base.specs.declared.codes.DataSet.{DataSet}
use Rattle.cap_base.specs.declared.codes.DataSet.TheVariants.{Aqpr, Mgtp, Strp}
use Rattle.cap_base.specs.declared.codes.PlanAct.{PlanAct}
use Rattle.cap_base.specs.declared.codes.PlanAct.TheVariants.{Dwnl, Upld}
use Rattle.cap_leaf.specs.declared.kinds.CodeList.TheVariants as list
use Rattle.cap_leaf.specs.declared.leaf.Leaf.{Leaf}
use Rattle.cap_leaf.specs.declared.leaf.Leaf.TheVariants.{Code}
use Rattle.cap_leaf.specs.Trees.{Data}
use Rattle.cap_fields.specs.Fields.{code_in}

abbrev pub response_place : Response → ℕ
response_place Appr = 0
response_place Decl = 1
response_place Part = 2
response_place Tech = 3

abbrev pub response_at : ℕ → Option Response
response_at zero = Some Appr
response_at (suc zero) = Some Decl
response_at (suc (suc zero)) = Some Part
response_at (suc (suc (suc zero))) = Some Tech
response_at _ = None

abbrev pub reason_place : Reason → ℕ
reason_place Unpr = 0
reason_place Imsg = 1
reason_place Pars = 2
reason_place Secu = 3
reason_place Intp = 4
reason_place Rcpp = 5
reason_place Dpmg = 6
reason_place Vers = 7
reason_place Msgt = 8

abbrev pub reason_at : ℕ → Option Reason
reason_at zero = Some Unpr
reason_at (suc zero) = Some Imsg
reason_at (suc (suc zero)) = Some Pars
reason_at (suc (suc (suc zero))) = Some Secu
reason_at (suc (suc (suc (suc zero)))) = Some Intp
reason_at (suc (suc (suc (suc (suc zero))))) = Some Rcpp
reason_at (suc (suc (suc (suc (suc (suc zero)))))) = Some Dpmg
reason_at (suc (suc (suc (suc (suc (suc (suc zero))))))) = Some Vers
reason_at (suc (suc (suc (suc (suc (suc (suc (suc zero)))))))) = Some Msgt
reason_at _ = None

-- a place in the list of all sets, and in that of the sets that a status report asks for
abbrev pub set_place : DataSet → ℕ
set_place Aqpr = 0
set_place Mgtp = 1
set_place Strp = 2

abbrev pub set_at : ℕ → Option DataSet
set_at zero = Some Aqpr
set_at (suc zero) = Some Mgtp
set_at (suc (suc zero)) = Some Strp
set_at _ = None

abbrev pub act_place : PlanAct → ℕ
act_place Dwnl = 0
act_place Upld = 1

abbrev pub act_at : ℕ → Option PlanAct
act_at zero = Some Dwnl
act_at (suc zero) = Some Upld
act_at _ = None

-- codes as leaves
abbrev pub response_code : Response → Leaf
response_code r = Code list.Response (response_place r)

abbrev pub reason_code : Reason → Leaf
reason_code r = Code list.Reason (reason_place r)

abbrev pub wanted_code : DataSet → Leaf
wanted_code s = Code list.Wanted (set_place s)

abbrev pub set_code : DataSet → Leaf
set_code s = Code list.AnySet (set_place s)

abbrev pub act_code : PlanAct → Leaf
act_code a = Code list.Act (act_place a)

-- the code at a place of a structure
abbrev pub response_in : Data → ℕ → Option Response
response_in d at = option_and_then response_at (code_in d at)

abbrev pub reason_in : Data → ℕ → Option Reason
reason_in d at = option_and_then reason_at (code_in d at)

abbrev pub set_in : Data → ℕ → Option DataSet
set_in d at = option_and_then set_at (code_in d at)

abbrev pub act_in : Data → ℕ → Option PlanAct
act_in d at = option_and_then act_at (code_in d at)
