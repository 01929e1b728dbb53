use Rattle.std.proofs.Common.{◌≡◌, drop}
use Rattle.std.specs.Prelude.{map}
use Rattle.cap_leaf.specs.Trees.{children_view}
use Rattle.cap_fields.specs.Fields.{followed_by, repeated}
use Rattle.cap_batch_msgs.specs.Bodies.{item_tree}
use Rattle.cap_batch_msgs.proofs.writing.items_tree.Given as goal

abbrev pub invariant-loop-item : goal.invariant-loop-item
invariant-loop-item l = followed_by (children_view l.children) (repeated 0 (map item_tree (drop l.item-index l.items))) ≡ repeated 0 (map item_tree l.items)
