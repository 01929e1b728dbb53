use Rattle.std.proofs.Common.{ap, ◌∙◌}
use Rattle.std.specs.Prelude.{map}
use Rattle.cap_leaf.specs.Trees.{children_view, branch, child, none}
use Rattle.cap_fields.specs.Fields.{followed_by, repeated}
use Rattle.cap_fields.proofs.Repeats.{put_one, put_all}
use Rattle.cap_batch_msgs.specs.Bodies.{item_tree}
use Rattle.cap_batch_msgs.proofs.writing.items_tree.Goals as goal

pub loop-item-preserved : goal.loop-item-preserved
loop-item-preserved c =
    put_one item_tree 0 c.args.items.now c.loop-item.item-index c.item-item.result (children_view c.loop-item.children) (children_view c.in_ok-children.children)
    (repeated 0 (map item_tree c.args.items.now)) c.loop-item-test.true c.item-item.is c.loop-item.invariant
    (c.in_ok-children.ensures ∙ ap (λ d. followed_by (children_view c.loop-item.children) (child 0 d none)) c.in_ok-tree.ensures)

pub returns : goal.returns
returns c =
    c.structure.ensures ∙ ap branch (put_all item_tree 0 c.args.items.now c.loop-item.item-index (children_view c.loop-item.children) (repeated 0 (map item_tree c.args.items.now)) c.loop-item-test.false c.loop-item.invariant)
