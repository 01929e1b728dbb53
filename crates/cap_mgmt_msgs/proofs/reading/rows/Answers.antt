use Rattle.std.proofs.Common.{◌≡◌, Some}
use Rattle.cap_leaf.specs.Trees.{data_of}
use Rattle.cap_fields.proofs.Repeats.{next_is_some, read_on}
use Rattle.cap_mgmt_msgs.specs.Reading.{row_in}
use Rattle.cap_mgmt_msgs.proofs.reading.rows.Goals as goal

pub unwrap-requires : goal.unwrap-requires
unwrap-requires c =
    next_is_some row_in c.args.children.now c.loop-child.child-index c.child-item.result c.loop-child.found.items c.row.result
    c.loop-child-test.true c.child-item.is c.loop-child.invariant c.row.ensures

pub loop-child-preserved : goal.loop-child-preserved
loop-child-preserved c =
    let e : Some c.unwrap.result ≡ row_in (data_of c.child-item.result.tree) = cc in
    read_on row_in c.args.children.now c.loop-child.child-index c.child-item.result c.loop-child.found.items c.push.new.self.items c.unwrap.result
    c.loop-child-test.true c.child-item.is c.loop-child.invariant e c.in_ok-push.ensures.items
