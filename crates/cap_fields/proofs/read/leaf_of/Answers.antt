use Rattle.std.proofs.Common.{Some, sym, ap, ◌∙◌}
use Rattle.cap_leaf.specs.Trees.{data_of}
use Rattle.cap_fields.specs.Fields.{as_leaf}
use Rattle.cap_fields.proofs.Views.{data_leaf, data_branch}
use Rattle.cap_fields.proofs.read.leaf_of.Goals as goal

pub returns-in-Leaf : goal.returns-in-Leaf
returns-in-Leaf c = sym (ap (λ t. as_leaf (Some (data_of t))) c.in-Leaf.is ∙ ap (λ d. as_leaf (Some d)) (data_leaf c.in-Leaf.leaf))

pub returns-in-Branch : goal.returns-in-Branch
returns-in-Branch c = sym (ap (λ t. as_leaf (Some (data_of t))) c.in-Branch.is ∙ ap (λ d. as_leaf (Some d)) (data_branch c.in-Branch.field-0))
