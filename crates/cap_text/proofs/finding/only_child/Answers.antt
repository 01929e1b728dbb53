use Rattle.std.proofs.Common.{refl, sym, ◌∙◌}
use Rattle.cap_text.proofs.OnlyChild.{leaf_is_none, branch_is_none, only_is}
use Rattle.cap_text.proofs.finding.only_child.Goals as goal

pub returns-in-Leaf : goal.returns-in-Leaf
returns-in-Leaf c = leaf_is_none c.args.tree _ c.in-Leaf.is

pub returns-then-len-eq1 : goal.returns-then-len-eq1
returns-then-len-eq1 c = only_is c.args.tree _ c.in-Branch.children c.pop.new.self c.pop.result c.in-Branch.is refl (sym c.len.ensures ∙ c.if-len-eq1.true) c.pop.ensures

pub returns : goal.returns
returns c = branch_is_none c.args.tree _ c.in-Branch.is (λ one. c.if-len-eq1.false (c.len.ensures ∙ one))
