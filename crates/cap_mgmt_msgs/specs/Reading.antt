-- The body that a body element tells, field by field.
use Rattle.std.specs.Prelude.{ℕ, zero, suc, List, Option, Some, None, option_and_then}
use Rattle.cap_base.specs.declared.codes.DataSet.{DataSet}
use Rattle.cap_base.specs.declared.codes.PlanAct.{PlanAct}
use Rattle.cap_base.specs.declared.parameters.Row.{Row}
use Rattle.cap_base.specs.declared.parameters.ConfigPart.{ConfigPart}
use Rattle.cap_leaf.specs.declared.kinds.Kind.{Kind}
use Rattle.cap_leaf.specs.declared.kinds.Kind.TheVariants.{Catm001, Catm002, Catm003, Catm004}
use Rattle.cap_leaf.specs.Date.{DateParts}
use Rattle.cap_leaf.specs.Trees.{Data, Children, none, child}
use Rattle.cap_fields.specs.Fields.{inside, all_among, num_in, ident_in, date_in}
use Rattle.cap_fields.specs.Codes.{set_in, act_in}
use Rattle.cap_fields.specs.Refused.{refused_in}
use Rattle.cap_mgmt_msgs.specs.declared.actions.Action.{Action}
use Rattle.cap_mgmt_msgs.specs.declared.body.MgmtBody.{MgmtBody}
use Rattle.cap_mgmt_msgs.specs.declared.body.MgmtBody.TheVariants.{Status, Plan, Part, ManagementRejection}

abbrev pub status_in : Data → Option MgmtBody
status_in d =
    option_and_then (λ wanted. option_and_then (λ in_force. option_and_then (λ staged. option_and_then (λ parts. Some (Status wanted in_force staged parts))
    (num_in d 3)) (num_in d 2)) (num_in d 1)) (set_in d 0)

abbrev pub action_with : PlanAct → DataSet → DateParts → ℕ → Action
action_with act set start minutes = record { act = act; set = set; start = start; minutes = minutes }

abbrev pub action_in : Data → Option Action
action_in d =
    option_and_then (λ act. option_and_then (λ set. option_and_then (λ start. option_and_then (λ minutes. Some (action_with act set start minutes))
    (num_in d 3)) (date_in d 2)) (set_in d 1)) (act_in d 0)

abbrev pub actions_in : Data → Option (List Action)
actions_in d = all_among action_in (inside d)

abbrev pub plan_in : Data → Option MgmtBody
plan_in d = option_and_then (λ actions. Some (Plan actions)) (actions_in d)

abbrev pub row_with : List ℕ → List ℕ → Row
row_with key text = record { key = key; value = text }

abbrev pub row_in : Data → Option Row
row_in d = option_and_then (λ key. option_and_then (λ text. Some (row_with key text)) (ident_in d 1)) (ident_in d 0)

-- the children behind the first so many
abbrev pub children_behind : ℕ → Children → Children
children_behind zero cs = cs
children_behind (suc n) none = none
children_behind (suc n) (child at d rest) = children_behind n rest

abbrev pub rows_in : Data → Option (List Row)
rows_in d = all_among row_in (children_behind 3 (inside d))

abbrev pub part_with : ℕ → ℕ → ℕ → List Row → ConfigPart
part_with version part parts rows = record { version = version; part = part; parts = parts; rows = rows }

abbrev pub part_in : Data → Option MgmtBody
part_in d =
    option_and_then (λ version. option_and_then (λ part. option_and_then (λ parts. option_and_then (λ rows. Some (Part (part_with version part parts rows)))
    (rows_in d)) (num_in d 2)) (num_in d 1)) (num_in d 0)

abbrev pub management_rejection_in : Data → Option MgmtBody
management_rejection_in d = option_and_then (λ refused. Some (ManagementRejection refused)) (refused_in d)

abbrev pub mgmt_body_in : Kind → Data → Option MgmtBody
mgmt_body_in Catm001 d = status_in d
mgmt_body_in Catm002 d = plan_in d
mgmt_body_in Catm003 d = part_in d
mgmt_body_in Catm004 d = management_rejection_in d
mgmt_body_in _ d = None
