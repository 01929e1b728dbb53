use Rattle.std.proofs.Common.{◌≡◌, Some}
use Rattle.cap_leaf.specs.Trees.{data_of}
use Rattle.cap_fields.specs.Fields.{num_in}
use Rattle.cap_mgmt_msgs.proofs.Parts.{part_there}
use Rattle.cap_mgmt_msgs.proofs.reading.part.Goals as goal

pub returns : goal.returns
returns c =
    let v : num_in (data_of c.args.tree.now) 0 ≡ Some c.unwrap.result = cc in
    let p : num_in (data_of c.args.tree.now) 1 ≡ Some c.unwrap-2.result = cc in
    let q : num_in (data_of c.args.tree.now) 2 ≡ Some c.unwrap-3.result = cc in
    part_there (data_of c.args.tree.now) c.unwrap.result c.unwrap-2.result c.unwrap-3.result c.in_ok-rows.rows v p q c.in_ok-rows.ensures
