use Rattle.std.proofs.Common.{◌∙◌}
use Rattle.cap_fields.proofs.Views.{among_found, among_on}
use Rattle.cap_fields.proofs.read.tree_among.Goals as goal

pub returns-then-child-at : goal.returns-then-child-at
returns-then-child-at c =
    c.loop-child.invariant ∙ among_found c.args.children.now c.loop-child.child-index c.child-item.result c.args.at c.loop-child-test.true c.child-item.is c.if-child-at.true

pub loop-child-preserved : goal.loop-child-preserved
loop-child-preserved c =
    c.loop-child.invariant ∙ among_on c.args.children.now c.loop-child.child-index c.child-item.result c.args.at c.loop-child-test.true c.child-item.is c.if-child-at.false
