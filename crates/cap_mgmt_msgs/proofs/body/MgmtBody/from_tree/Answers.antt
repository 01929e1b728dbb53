use Rattle.std.proofs.Common.{◌≡◌, Some}
use Rattle.cap_leaf.specs.Trees.{data_of}
use Rattle.cap_mgmt_msgs.specs.Reading.{management_rejection_in}
use Rattle.cap_mgmt_msgs.proofs.Whole.{plan_read_as, part_read_as, rejection_read_as}
use Rattle.cap_mgmt_msgs.proofs.body.MgmtBody.from_tree.Goals as goal

pub returns-in_ok-actions-in-Catm002-clause-tree : goal.returns-in_ok-actions-in-Catm002-clause-tree
returns-in_ok-actions-in-Catm002-clause-tree c =
    (plan_read_as c.args.kind _ c.in_ok-actions-in-Catm002.actions c.in-Catm002.is c.requires c.in_ok-actions-in-Catm002.ensures).tree

pub returns-in_ok-actions-in-Catm002-clause-range : goal.returns-in_ok-actions-in-Catm002-clause-range
returns-in_ok-actions-in-Catm002-clause-range c =
    (plan_read_as c.args.kind _ c.in_ok-actions-in-Catm002.actions c.in-Catm002.is c.requires c.in_ok-actions-in-Catm002.ensures).range

pub returns-in_ok-part-in-Catm003-clause-tree : goal.returns-in_ok-part-in-Catm003-clause-tree
returns-in_ok-part-in-Catm003-clause-tree c =
    (part_read_as c.args.kind _ c.in_ok-part-in-Catm003.part c.in-Catm003.is c.requires c.in_ok-part-in-Catm003.ensures).tree

pub returns-in_ok-part-in-Catm003-clause-range : goal.returns-in_ok-part-in-Catm003-clause-range
returns-in_ok-part-in-Catm003-clause-range c =
    (part_read_as c.args.kind _ c.in_ok-part-in-Catm003.part c.in-Catm003.is c.requires c.in_ok-part-in-Catm003.ensures).range

pub returns-in_default : goal.returns-in_default
returns-in_default c =
    let e : Some c.unwrap-in_default.result ≡ management_rejection_in (data_of c.args.tree.now) = cc in
    let r = rejection_read_as c.args.kind _ c.unwrap-in_default.result c.in_default.not-Catm001 c.in_default.not-Catm002 c.in_default.not-Catm003 c.requires e in
    record { kind = r.kind; tree = r.tree; range = r.range }
