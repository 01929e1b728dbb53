use Rattle.cap_fields.proofs.Views.{data_leaf}
use Rattle.cap_fields.proofs.build.leaf_tree.Goals as goal

pub returns : goal.returns
returns c = data_leaf c.args.leaf
