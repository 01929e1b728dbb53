use Rattle.std.proofs.Common.{sym, ap, ◌∙◌}
use Rattle.cap_leaf.specs.Trees.{data_of, children_view}
use Rattle.cap_fields.specs.Fields.{inside}
use Rattle.cap_fields.proofs.Views.{data_leaf, data_branch}
use Rattle.cap_fields.proofs.read.children_of.Goals as goal

pub returns-in-Leaf : goal.returns-in-Leaf
returns-in-Leaf c = sym (ap (λ t. inside (data_of t)) c.in-Leaf.is ∙ ap inside (data_leaf c.in-Leaf.field-0))

pub returns-in-Branch : goal.returns-in-Branch
returns-in-Branch c = ap children_view c.as_slice.ensures ∙ sym (ap (λ t. inside (data_of t)) c.in-Branch.is ∙ ap inside (data_branch c.in-Branch.children))
