use Rattle.std.proofs.Common.{ap, ◌∙◌}
use Rattle.std.specs.Prelude.{map}
use Rattle.cap_leaf.specs.Trees.{children_view, branch, child, none}
use Rattle.cap_fields.specs.Fields.{followed_by, repeated}
use Rattle.cap_fields.proofs.Repeats.{put_one, put_all}
use Rattle.cap_mgmt_msgs.specs.Bodies.{action_tree}
use Rattle.cap_mgmt_msgs.proofs.writing.actions_tree.Goals as goal

pub loop-action-preserved : goal.loop-action-preserved
loop-action-preserved c =
    put_one action_tree 0 c.args.actions.now c.loop-action.action-index c.action-item.result (children_view c.loop-action.children) (children_view c.in_ok-children.children)
    (repeated 0 (map action_tree c.args.actions.now)) c.loop-action-test.true c.action-item.is c.loop-action.invariant
    (c.in_ok-children.ensures ∙ ap (λ d. followed_by (children_view c.loop-action.children) (child 0 d none)) c.in_ok-tree.ensures)

pub returns : goal.returns
returns c =
    c.structure.ensures ∙ ap branch (put_all action_tree 0 c.args.actions.now c.loop-action.action-index (children_view c.loop-action.children) (repeated 0 (map action_tree c.args.actions.now)) c.loop-action-test.false c.loop-action.invariant)
