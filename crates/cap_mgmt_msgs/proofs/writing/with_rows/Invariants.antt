use Rattle.std.proofs.Common.{◌≡◌, drop}
use Rattle.std.specs.Prelude.{map}
use Rattle.cap_leaf.specs.Trees.{children_view}
use Rattle.cap_fields.specs.Fields.{followed_by, repeated}
use Rattle.cap_mgmt_msgs.specs.Bodies.{row_tree}
use Rattle.cap_mgmt_msgs.proofs.writing.with_rows.Given as goal

abbrev pub invariant-loop-row : goal.invariant-loop-row
invariant-loop-row l =
    followed_by (children_view l.children) (repeated 3 (map row_tree (drop l.row-index l.rows))) ≡ followed_by (children_view l.fn.before) (repeated 3 (map row_tree l.rows))
