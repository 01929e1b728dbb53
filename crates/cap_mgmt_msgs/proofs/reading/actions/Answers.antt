use Rattle.std.proofs.Common.{◌≡◌, Some}
use Rattle.cap_leaf.specs.Trees.{data_of}
use Rattle.cap_fields.proofs.Repeats.{next_is_some, read_on}
use Rattle.cap_mgmt_msgs.specs.Reading.{action_in}
use Rattle.cap_mgmt_msgs.proofs.reading.actions.Goals as goal

pub unwrap-requires : goal.unwrap-requires
unwrap-requires c =
    next_is_some action_in c.args.children.now c.loop-child.child-index c.child-item.result c.loop-child.found.items c.action.result
    c.loop-child-test.true c.child-item.is c.loop-child.invariant c.action.ensures

pub loop-child-preserved : goal.loop-child-preserved
loop-child-preserved c =
    let e : Some c.unwrap.result ≡ action_in (data_of c.child-item.result.tree) = cc in
    read_on action_in c.args.children.now c.loop-child.child-index c.child-item.result c.loop-child.found.items c.push.new.self.items c.unwrap.result
    c.loop-child-test.true c.child-item.is c.loop-child.invariant e c.in_ok-push.ensures.items
