use Rattle.std.proofs.Common.{ap, ◌∙◌}
use Rattle.cap_leaf.specs.Trees.{children_view}
use Rattle.cap_fields.proofs.Views.{children_push}
use Rattle.cap_fields.proofs.build.with.Goals as goal

pub returns : goal.returns
returns c = ap children_view c.in_ok-push.ensures.ok ∙ children_push c.args.children record { at = c.args.at; tree = c.args.tree }
