use Rattle.std.proofs.Common.{◌+◌}
use Rattle.cap_leaf.specs.Trees.{children_view, child, none}
use Rattle.cap_fields.specs.Fields.{maybe_num}
use Rattle.cap_msgs.specs.Trees.{party_tree}
use Rattle.cap_msgs.proofs.HeaderShapes.{put_last, put_as, put_number}
use Rattle.cap_msgs.proofs.header.header_from.Goals as goal

pub returns : goal.returns
returns c =
    put_as (children_view c.args.before) c.args.at _ c.in_ok-children.ensures c.leaf_tree-version.ensures
    (put_as (children_view c.in_ok-children.children) (c.args.at + 1) _ c.in_ok-children-2.ensures c.leaf_tree.ensures
    (put_number (children_view c.in_ok-children-2.children) (c.args.at + 2) _ c.wider.result c.args.header.now.repeat c.in_ok-children-3.ensures c.wider.ensures
    (put_as (children_view c.in_ok-children-3.children) (c.args.at + 3) _ c.in_ok-children-4.ensures c.leaf_tree-2.ensures
    (put_as (children_view c.in_ok-children-4.children) (c.args.at + 4) _ c.in_ok-children-5.ensures c.in_ok-from.ensures
    (put_last (children_view c.in_ok-children-5.children) (c.args.at + 5) c.in_ok-children-6.ensures c.in_ok-to.ensures)))))
