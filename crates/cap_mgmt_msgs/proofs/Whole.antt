-- A body and its tree are one to one.
use Rattle.std.proofs.Common.{◌≡◌, ℕ, true, Option, Some, None, List, [], ◌∷◌, refl, sym, ap, ◌∙◌, subst}
use Rattle.std.specs.Prelude.{option_and_then, IsSome, map}
use Rattle.cap_base.specs.Rows.{IsPartRows}
use Rattle.cap_base.specs.declared.codes.DataSet.{DataSet}
use Rattle.cap_base.specs.declared.codes.PlanAct.{PlanAct}
use Rattle.cap_base.specs.declared.parameters.Row.{Row}
use Rattle.cap_base.specs.declared.parameters.ConfigPart.{ConfigPart}
use Rattle.cap_leaf.specs.declared.kinds.Kind.{Kind}
use Rattle.cap_leaf.specs.declared.kinds.Kind.TheVariants.{Catm001, Catm002, Catm003, Catm004}
use Rattle.cap_leaf.specs.Trees.{Data}
use Rattle.cap_fields.specs.Fields.{inside, repeated, num_in}
use Rattle.cap_fields.specs.Codes.{set_at, set_place}
use Rattle.cap_fields.proofs.Back.{set_back, act_back, refused_back}
use Rattle.cap_fields.proofs.Repeats.{all_back, some_same}
use Rattle.cap_mgmt_msgs.specs.declared.actions.Action.{Action}
use Rattle.cap_mgmt_msgs.specs.declared.body.MgmtBody.{MgmtBody}
use Rattle.cap_mgmt_msgs.specs.declared.body.MgmtBody.TheVariants.{Status, Plan, Part, ManagementRejection}
use Rattle.cap_mgmt_msgs.specs.Actions.{IsPlan}
use Rattle.cap_mgmt_msgs.specs.Bodies.{mgmt_kind, is_mgmt_body, mgmt_body_tree, action_tree, row_tree}
use Rattle.cap_mgmt_msgs.specs.Shapes.{HasMgmtShape, HasFewParts}
use Rattle.cap_mgmt_msgs.specs.Reading.{status_in, action_with, action_in, actions_in, row_in, rows_in, part_with, part_in, management_rejection_in, mgmt_body_in}

pub action_back : (a : Action) → action_in (action_tree a) ≡ Some a
action_back a =
    ap (λ o. option_and_then (λ act. option_and_then (λ set. Some (action_with act set a.start a.minutes)) (set_at (set_place a.set))) o) (act_back a.act)
    ∙ ap (option_and_then (λ set. Some (action_with a.act set a.start a.minutes))) (set_back a.set)

pub row_back : (r : Row) → row_in (row_tree r) ≡ Some r
row_back r = refl

pub part_back : (p : ConfigPart) → part_in (mgmt_body_tree (Part p)) ≡ Some (Part p)
part_back p = ap (option_and_then (λ rows. Some (Part (part_with p.version p.part p.parts rows)))) (all_back row_tree row_in row_back 3 p.rows)

-- a body is read back from its tree
pub body_back : (b : MgmtBody) → mgmt_body_in (mgmt_kind b) (mgmt_body_tree b) ≡ Some b
body_back (Status wanted in_force staged parts) = ap (option_and_then (λ w. Some (Status w in_force staged parts))) (set_back wanted)
body_back (Plan actions) = ap (option_and_then (λ xs. Some (Plan xs))) (all_back action_tree action_in action_back 0 actions)
body_back (Part part) = part_back part
body_back (ManagementRejection refused) = ap (option_and_then (λ r. Some (ManagementRejection r))) (refused_back refused)

pub same_body : (a b : MgmtBody) → mgmt_kind a ≡ mgmt_kind b → mgmt_body_tree a ≡ mgmt_body_tree b → a ≡ b
same_body a b k t =
    some_same a b (sym (body_back a) ∙ ap (λ j. mgmt_body_in j (mgmt_body_tree a)) k ∙ ap (mgmt_body_in (mgmt_kind b)) t ∙ body_back b)

-- what a tree of the shape is read as
pub record IsReadAs (k : Kind) (d : Data) (b : MgmtBody) : Type 0 where
  pub kind : mgmt_kind b ≡ k
  pub tree : d ≡ mgmt_body_tree b
  pub range : is_mgmt_body b ≡ true

pub shape_read : (k : Kind) (d : Data) (s : HasMgmtShape k d) → mgmt_body_in k d ≡ Some s.body
shape_read k d s = ap (λ j. mgmt_body_in j d) (sym s.kind) ∙ ap (mgmt_body_in (mgmt_kind s.body)) s.is ∙ body_back s.body

pub read_as : (k : Kind) (d : Data) (b : MgmtBody) → HasMgmtShape k d → mgmt_body_in k d ≡ Some b → IsReadAs k d b
read_as k d b s e =
    let P : MgmtBody → Type 0 = λ x. IsReadAs k d x in
    subst P (some_same s.body b (sym (shape_read k d s) ∙ e)) (record { kind = s.kind; tree = s.is; range = s.range })

-- ---- a status report, and a rejection

pub status_is_some : (k : Kind) (d : Data) (o : Option MgmtBody) → k ≡ Catm001 → HasMgmtShape k d → o ≡ status_in d → IsSome o
status_is_some k d o e s r =
    let P : Option MgmtBody → Type 0 = λ x. IsSome x in subst P (sym (r ∙ ap (λ j. mgmt_body_in j d) (sym e) ∙ shape_read k d s)) refl

pub status_read_as : (k : Kind) (d : Data) (b : MgmtBody) → k ≡ Catm001 → HasMgmtShape k d → Some b ≡ status_in d → IsReadAs k d b
status_read_as k d b e s r = read_as k d b s (ap (λ j. mgmt_body_in j d) e ∙ sym r)

-- of the four messages it is the last
last_kind : (k : Kind) (b : MgmtBody) → mgmt_kind b ≡ k → (k ≡ Catm001 → ⊥) → (k ≡ Catm002 → ⊥) → (k ≡ Catm003 → ⊥) → k ≡ Catm004
last_kind k (Status wanted in_force staged parts) e a b c = absurd (a (sym e))
last_kind k (Plan actions) e a b c = absurd (b (sym e))
last_kind k (Part part) e a b c = absurd (c (sym e))
last_kind k (ManagementRejection refused) e a b c = sym e

pub rejection_is_some : (k : Kind) (d : Data) (o : Option MgmtBody) → (k ≡ Catm001 → ⊥) → (k ≡ Catm002 → ⊥) → (k ≡ Catm003 → ⊥) → HasMgmtShape k d
    → o ≡ management_rejection_in d → IsSome o
rejection_is_some k d o f g h s r =
    let P : Option MgmtBody → Type 0 = λ x. IsSome x in
    subst P (sym (r ∙ ap (λ j. mgmt_body_in j d) (sym (last_kind k s.body s.kind f g h)) ∙ shape_read k d s)) refl

pub rejection_read_as : (k : Kind) (d : Data) (b : MgmtBody) → (k ≡ Catm001 → ⊥) → (k ≡ Catm002 → ⊥) → (k ≡ Catm003 → ⊥) → HasMgmtShape k d
    → Some b ≡ management_rejection_in d → IsReadAs k d b
rejection_read_as k d b f g h s r = read_as k d b s (ap (λ j. mgmt_body_in j d) (last_kind k s.body s.kind f g h) ∙ sym r)

-- ---- a plan

plan_of_body : (d : Data) (b : MgmtBody) → mgmt_kind b ≡ Catm002 → d ≡ mgmt_body_tree b → HasFewParts b → (xs : List Action) × (actions_in d ≡ Some xs) × IsPlan xs
plan_of_body d (Plan actions) k e few = (actions, ap actions_in e ∙ all_back action_tree action_in action_back 0 actions, few)
plan_of_body d (Status wanted in_force staged parts) k e few = cc
plan_of_body d (Part part) k e few = cc
plan_of_body d (ManagementRejection refused) k e few = cc

pub plan_actions : (d : Data) → HasMgmtShape Catm002 d → (xs : List Action) × (actions_in d ≡ Some xs) × IsPlan xs
plan_actions d s = plan_of_body d s.body s.kind s.is s.few

pub plan_is_some : (d : Data) → HasMgmtShape Catm002 d → IsSome (actions_in d)
plan_is_some d s = let P : Option (List Action) → Type 0 = λ x. IsSome x in subst P (sym (plan_actions d s).1) refl

pub plan_is_few : (d : Data) (xs : List Action) → HasMgmtShape Catm002 d → actions_in d ≡ Some xs → IsPlan xs
plan_is_few d xs s e = let r = plan_actions d s in subst IsPlan (some_same r.0 xs (sym r.1 ∙ e)) r.2

pub plan_read_as : (k : Kind) (d : Data) (xs : List Action) → k ≡ Catm002 → HasMgmtShape k d → actions_in d ≡ Some xs → IsReadAs k d (Plan xs)
plan_read_as k d xs e s found =
    read_as k d (Plan xs) s (ap (λ j. mgmt_body_in j d) e ∙ ap (option_and_then (λ ys. Some (Plan ys))) found)

-- ---- a part

pub record PartOf (d : Data) : Type 0 where
  pub part : ConfigPart
  pub is : d ≡ mgmt_body_tree (Part part)
  pub few : IsPartRows part.rows

part_of_body : (d : Data) (b : MgmtBody) → mgmt_kind b ≡ Catm003 → d ≡ mgmt_body_tree b → HasFewParts b → PartOf d
part_of_body d (Part part) k e few = record { part = part; is = e; few = few }
part_of_body d (Status wanted in_force staged parts) k e few = cc
part_of_body d (Plan actions) k e few = cc
part_of_body d (ManagementRejection refused) k e few = cc

pub part_of : (d : Data) → HasMgmtShape Catm003 d → PartOf d
part_of d s = part_of_body d s.body s.kind s.is s.few

pub part_read_as : (k : Kind) (d : Data) (p : ConfigPart) → k ≡ Catm003 → HasMgmtShape k d → part_in d ≡ Some (Part p) → IsReadAs k d (Part p)
part_read_as k d p e s found = read_as k d (Part p) s (ap (λ j. mgmt_body_in j d) e ∙ found)
