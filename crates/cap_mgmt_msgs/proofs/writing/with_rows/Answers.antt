use Rattle.std.proofs.Common.{ap, ◌∙◌}
use Rattle.std.specs.Prelude.{map}
use Rattle.cap_leaf.specs.Trees.{children_view, branch, child, none}
use Rattle.cap_fields.specs.Fields.{followed_by, repeated}
use Rattle.cap_fields.proofs.Repeats.{put_one, put_all}
use Rattle.cap_mgmt_msgs.specs.Bodies.{row_tree}
use Rattle.cap_mgmt_msgs.proofs.writing.with_rows.Goals as goal

pub loop-row-preserved : goal.loop-row-preserved
loop-row-preserved c =
    put_one row_tree 3 c.args.rows.now c.loop-row.row-index c.row-item.result (children_view c.loop-row.children) (children_view c.in_ok-children.children)
    (followed_by (children_view c.args.before) (repeated 3 (map row_tree c.args.rows.now))) c.loop-row-test.true c.row-item.is c.loop-row.invariant
    (c.in_ok-children.ensures ∙ ap (λ d. followed_by (children_view c.loop-row.children) (child 3 d none)) c.in_ok-tree.ensures)

pub returns : goal.returns
returns c =
    put_all row_tree 3 c.args.rows.now c.loop-row.row-index (children_view c.loop-row.children) (followed_by (children_view c.args.before) (repeated 3 (map row_tree c.args.rows.now))) c.loop-row-test.false c.loop-row.invariant
