-- The shape of a body element.
use Rattle.std.specs.Prelude.{◌≡◌, ⊤, true}
use Rattle.cap_base.specs.Rows.{IsPartRows}
use Rattle.cap_leaf.specs.declared.kinds.Kind.{Kind}
use Rattle.cap_leaf.specs.Trees.{Data}
use Rattle.cap_mgmt_msgs.specs.declared.body.MgmtBody.{MgmtBody}
use Rattle.cap_mgmt_msgs.specs.declared.body.MgmtBody.TheVariants.{Status, Plan, Part, ManagementRejection}
use Rattle.cap_mgmt_msgs.specs.Actions.{IsPlan}
use Rattle.cap_mgmt_msgs.specs.Bodies.{mgmt_kind, is_mgmt_body, mgmt_body_tree}

-- a plan has 1 to 8 actions, and a part 1 to 16 rows
abbrev pub HasFewParts : MgmtBody → Type 0
HasFewParts (Status wanted in_force staged parts) = ⊤
HasFewParts (Plan actions) = IsPlan actions
HasFewParts (Part part) = IsPartRows part.rows
HasFewParts (ManagementRejection refused) = ⊤

-- the tree of a body of the message, whose numbers are in range
pub record HasMgmtShape (k : Kind) (d : Data) : Type 0 where
  pub body : MgmtBody
  pub kind : mgmt_kind body ≡ k
  pub range : is_mgmt_body body ≡ true
  pub few : HasFewParts body
  pub is : d ≡ mgmt_body_tree body
