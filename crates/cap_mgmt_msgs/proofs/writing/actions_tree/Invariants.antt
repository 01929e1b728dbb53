use Rattle.std.proofs.Common.{◌≡◌, drop}
use Rattle.std.specs.Prelude.{map}
use Rattle.cap_leaf.specs.Trees.{children_view}
use Rattle.cap_fields.specs.Fields.{followed_by, repeated}
use Rattle.cap_mgmt_msgs.specs.Bodies.{action_tree}
use Rattle.cap_mgmt_msgs.proofs.writing.actions_tree.Given as goal

abbrev pub invariant-loop-action : goal.invariant-loop-action
invariant-loop-action l = followed_by (children_view l.children) (repeated 0 (map action_tree (drop l.action-index l.actions))) ≡ repeated 0 (map action_tree l.actions)
