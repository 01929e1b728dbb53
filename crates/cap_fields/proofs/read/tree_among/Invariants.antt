use Rattle.std.proofs.Common.{◌≡◌, drop}
use Rattle.cap_leaf.specs.Trees.{children_view}
use Rattle.cap_fields.specs.Fields.{child_among}
use Rattle.cap_fields.proofs.read.tree_among.Given as goal

abbrev pub invariant-loop-child : goal.invariant-loop-child
invariant-loop-child l = child_among (children_view l.children) l.at ≡ child_among (children_view (drop l.child-index l.children)) l.at
