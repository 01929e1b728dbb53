use Rattle.std.proofs.Common.{ap, ◌∙◌}
use Rattle.cap_leaf.specs.Trees.{data_of}
use Rattle.cap_fields.specs.Fields.{child_in}
use Rattle.cap_fields.proofs.Views.{data_leaf, data_branch}
use Rattle.cap_fields.proofs.read.tree_at.Goals as goal

pub returns-in-Leaf : goal.returns-in-Leaf
returns-in-Leaf c = ap (λ t. child_in (data_of t) c.args.at) c.in-Leaf.is ∙ ap (λ d. child_in d c.args.at) (data_leaf c.in-Leaf.field-0)

pub returns-in-Branch : goal.returns-in-Branch
returns-in-Branch c = rw (c.in-Branch.is, data_branch c.in-Branch.children, ← c.as_slice.ensures) c.tree_among.ensures
