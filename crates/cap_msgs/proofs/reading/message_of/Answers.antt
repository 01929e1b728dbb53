use Rattle.std.proofs.Common.{◌≡◌, Some}
use Rattle.cap_leaf.specs.Trees.{data_of}
use Rattle.cap_msgs.specs.Trees.{first_of}
use Rattle.cap_msgs.specs.Reading.{header_in}
use Rattle.cap_msgs.proofs.HeaderShapes.{repeat_small}
use Rattle.cap_msgs.proofs.Whole.{head_is_some, inside_is_some, head_shape, inside_shape, header_is_some, message_read}
use Rattle.cap_msgs.proofs.reading.message_of.Goals as goal

pub part-head-requires : goal.part-head-requires
part-head-requires c = head_is_some c.args.kind (data_of c.args.tree.now) c.requires

pub part-inside-requires : goal.part-inside-requires
part-inside-requires c = inside_is_some c.args.kind (data_of c.args.tree.now) c.requires

pub read_header-requires : goal.read_header-requires
read_header-requires c =
    repeat_small c.args.kind (data_of c.part-head.result.now)
    (head_shape c.args.kind (data_of c.args.tree.now) (data_of c.part-head.result.now) c.requires c.part-head.ensures)

pub unwrap-header-requires : goal.unwrap-header-requires
unwrap-header-requires c =
    header_is_some c.args.kind (data_of c.part-head.result.now) c.read_header.result
    (head_shape c.args.kind (data_of c.args.tree.now) (data_of c.part-head.result.now) c.requires c.part-head.ensures) c.read_header.ensures

pub from_tree-requires : goal.from_tree-requires
from_tree-requires c = inside_shape c.args.kind (data_of c.args.tree.now) (data_of c.part-inside.result.now) c.requires c.part-inside.ensures

pub returns-clause-tree : goal.returns-clause-tree
returns-clause-tree c =
    let e : Some c.unwrap-header.result ≡ header_in (first_of c.args.kind) (data_of c.part-head.result.now) = cc in
    (message_read c.args.kind (data_of c.args.tree.now) (data_of c.part-head.result.now) (data_of c.part-inside.result.now) c.unwrap-header.result c.in_ok-body.body
    c.requires c.part-head.ensures c.part-inside.ensures e c.in_ok-body.ensures.kind c.in_ok-body.ensures.tree c.in_ok-body.ensures.range).tree

pub returns-clause-range : goal.returns-clause-range
returns-clause-range c =
    let e : Some c.unwrap-header.result ≡ header_in (first_of c.args.kind) (data_of c.part-head.result.now) = cc in
    (message_read c.args.kind (data_of c.args.tree.now) (data_of c.part-head.result.now) (data_of c.part-inside.result.now) c.unwrap-header.result c.in_ok-body.body
    c.requires c.part-head.ensures c.part-inside.ensures e c.in_ok-body.ensures.kind c.in_ok-body.ensures.tree c.in_ok-body.ensures.range).range
