-- What was written is read back.
use Rattle.std.proofs.Common.{◌≡◌, ℕ, Option, Some, None, refl, ap, sym, ◌∙◌}
use Rattle.std.specs.Prelude.{option_map, option_and_then}
use Rattle.cap_base.specs.declared.codes.Response.{Response}
use Rattle.cap_base.specs.declared.codes.Response.TheVariants.{Appr, Decl, Part, Tech}
use Rattle.cap_base.specs.declared.codes.Reason.{Reason}
use Rattle.cap_base.specs.declared.codes.Reason.TheVariants.{Unpr, Imsg, Pars, Secu, Intp, Rcpp, Dpmg, Vers, Msgt}
use Rattle.cap_base.specs.declared.codes.DataSet.{DataSet}
use Rattle.cap_base.specs.declared.codes.DataSet.TheVariants.{Aqpr, Mgtp, Strp}
use Rattle.cap_base.specs.declared.codes.PlanAct.{PlanAct}
use Rattle.cap_base.specs.declared.codes.PlanAct.TheVariants.{Dwnl, Upld}
use Rattle.cap_leaf.specs.declared.header.Refused.{Refused}
use Rattle.cap_fields.specs.Codes.{response_place, response_at, reason_place, reason_at, set_place, set_at, act_place, act_at}
use Rattle.cap_fields.specs.Refused.{refused_tree, refused_in}

pub response_back : (r : Response) → response_at (response_place r) ≡ Some r
response_back Appr = refl
response_back Decl = refl
response_back Part = refl
response_back Tech = refl

pub reason_back : (r : Reason) → reason_at (reason_place r) ≡ Some r
reason_back Unpr = refl
reason_back Imsg = refl
reason_back Pars = refl
reason_back Secu = refl
reason_back Intp = refl
reason_back Rcpp = refl
reason_back Dpmg = refl
reason_back Vers = refl
reason_back Msgt = refl

pub set_back : (s : DataSet) → set_at (set_place s) ≡ Some s
set_back Aqpr = refl
set_back Mgtp = refl
set_back Strp = refl

pub act_back : (a : PlanAct) → act_at (act_place a) ≡ Some a
act_back Dwnl = refl
act_back Upld = refl

back_by : (reason : Reason) (expected place : Option ℕ) → refused_in (refused_tree record { reason = reason; expected = expected; place = place }) ≡ Some record { reason = reason; expected = expected; place = place }
back_by reason None None = ap (option_map _) (reason_back reason)
back_by reason None (Some n) = ap (option_map _) (reason_back reason)
back_by reason (Some m) None = ap (option_map _) (reason_back reason)
back_by reason (Some m) (Some n) = ap (option_map _) (reason_back reason)

pub refused_back : (r : Refused) → refused_in (refused_tree r) ≡ Some r
refused_back r = back_by r.reason r.expected r.place
