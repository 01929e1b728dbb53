-- The trees of the bodies of messages of terminal management, and the ranges of their numbers.
use Rattle.std.specs.Prelude.{ℕ, Bool, true, false, ◌&&◌, List, [], ◌∷◌, map}
use Rattle.std.specs.List.{list_all}
use Rattle.cap_base.specs.declared.codes.DataSet.{DataSet}
use Rattle.cap_base.specs.declared.codes.DataSet.TheVariants.{Aqpr, Mgtp, Strp}
use Rattle.cap_base.specs.declared.parameters.Row.{Row}
use Rattle.cap_base.specs.declared.parameters.ConfigPart.{ConfigPart}
use Rattle.cap_leaf.specs.declared.kinds.Kind.{Kind}
use Rattle.cap_leaf.specs.declared.kinds.Kind.TheVariants.{Catm001, Catm002, Catm003, Catm004}
use Rattle.cap_leaf.specs.declared.leaf.Leaf.TheVariants as leaf
use Rattle.cap_leaf.specs.Trees.{Data, value, branch, none, child}
use Rattle.cap_fields.specs.Fields.{record_of, repeated}
use Rattle.cap_fields.specs.Codes.{wanted_code, set_code, act_code}
use Rattle.cap_fields.specs.Refused.{in_digits, is_refused, refused_tree}
use Rattle.cap_mgmt_msgs.specs.declared.actions.Action.{Action}
use Rattle.cap_mgmt_msgs.specs.declared.body.MgmtBody.{MgmtBody}
use Rattle.cap_mgmt_msgs.specs.declared.body.MgmtBody.TheVariants.{Status, Plan, Part, ManagementRejection}

-- the message of a body
abbrev pub mgmt_kind : MgmtBody → Kind
mgmt_kind (Status wanted in_force staged parts) = Catm001
mgmt_kind (Plan actions) = Catm002
mgmt_kind (Part part) = Catm003
mgmt_kind (ManagementRejection refused) = Catm004

-- a set that a status report may ask for
abbrev pub is_wanted : DataSet → Bool
is_wanted Aqpr = true
is_wanted Mgtp = true
is_wanted Strp = false

-- at most six digits of minutes
abbrev pub is_action : Action → Bool
is_action a = in_digits 6 a.minutes

-- a version has at most ten digits, and numbers of parts have at most three
abbrev pub is_part : ConfigPart → Bool
is_part p = in_digits 10 p.version && (in_digits 3 p.part && in_digits 3 p.parts)

-- its numbers are in range, and a status report asks for a set that it may ask for
abbrev pub is_mgmt_body : MgmtBody → Bool
is_mgmt_body (Status wanted in_force staged parts) = is_wanted wanted && (in_digits 10 in_force && (in_digits 10 staged && in_digits 3 parts))
is_mgmt_body (Plan actions) = list_all is_action actions
is_mgmt_body (Part part) = is_part part
is_mgmt_body (ManagementRejection refused) = is_refused refused

abbrev pub action_tree : Action → Data
action_tree a = record_of (act_code a.act ∷ set_code a.set ∷ leaf.DateTime a.start ∷ leaf.Num a.minutes ∷ [])

abbrev pub row_tree : Row → Data
row_tree r = record_of (leaf.Ident r.key ∷ leaf.Ident r.value ∷ [])

abbrev pub part_tree : ConfigPart → Data
part_tree p = branch (child 0 (value (leaf.Num p.version)) (child 1 (value (leaf.Num p.part)) (child 2 (value (leaf.Num p.parts)) (repeated 3 (map row_tree p.rows)))))

-- the body element
abbrev pub mgmt_body_tree : MgmtBody → Data
mgmt_body_tree (Status wanted in_force staged parts) = record_of (wanted_code wanted ∷ leaf.Num in_force ∷ leaf.Num staged ∷ leaf.Num parts ∷ [])
mgmt_body_tree (Plan actions) = branch (repeated 0 (map action_tree actions))
mgmt_body_tree (Part part) = part_tree part
mgmt_body_tree (ManagementRejection refused) = refused_tree refused
