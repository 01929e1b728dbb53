use Rattle.std.proofs.Common.{sym, ap, ◌∙◌}
use Rattle.cap_leaf.specs.View.{content_view}
use Rattle.cap_leaf.specs.Schema.{table_in}
use Rattle.cap_leaf.proofs.Views.{content_leaf, content_all, content_one_of}
use Rattle.cap_leaf.proofs.schema.Shape.table.Goals as goal

pub returns-in-Leaf : goal.returns-in-Leaf
returns-in-Leaf c = sym (ap (λ s. table_in (content_view s)) c.in-Leaf.is ∙ ap table_in (content_leaf c.in-Leaf.field-0))

pub returns-in-All : goal.returns-in-All
returns-in-All c = sym (ap (λ s. table_in (content_view s)) c.in-All.is ∙ ap table_in (content_all c.in-All.nodes))

pub returns-in-OneOf : goal.returns-in-OneOf
returns-in-OneOf c = sym (ap (λ s. table_in (content_view s)) c.in-OneOf.is ∙ ap table_in (content_one_of c.in-OneOf.nodes))
