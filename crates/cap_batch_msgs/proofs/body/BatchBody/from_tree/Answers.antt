use Rattle.std.proofs.Common.{◌≡◌, Some}
use Rattle.cap_leaf.specs.Trees.{data_of}
use Rattle.cap_batch_msgs.specs.Reading.{plain_body_in}
use Rattle.cap_batch_msgs.proofs.Whole.{batch_read_as, plain_read_as}
use Rattle.cap_batch_msgs.proofs.body.BatchBody.from_tree.Goals as goal

pub returns-in_ok-items-in-Caaa011-clause-tree : goal.returns-in_ok-items-in-Caaa011-clause-tree
returns-in_ok-items-in-Caaa011-clause-tree c =
    (batch_read_as c.args.kind _ c.in_ok-items-in-Caaa011.items c.in-Caaa011.is c.requires c.in_ok-items-in-Caaa011.ensures).tree

pub returns-in_ok-items-in-Caaa011-clause-range : goal.returns-in_ok-items-in-Caaa011-clause-range
returns-in_ok-items-in-Caaa011-clause-range c =
    (batch_read_as c.args.kind _ c.in_ok-items-in-Caaa011.items c.in-Caaa011.is c.requires c.in_ok-items-in-Caaa011.ensures).range

pub returns-in_default : goal.returns-in_default
returns-in_default c =
    let e : Some c.unwrap.result ≡ plain_body_in c.args.kind (data_of c.args.tree.now) = cc in
    let r = plain_read_as c.args.kind _ c.unwrap.result c.in_default.not-Caaa011 c.requires e in
    record { kind = r.kind; tree = r.tree; range = r.range }
