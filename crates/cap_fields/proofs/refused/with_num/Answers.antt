use Rattle.std.proofs.Common.{sym}
use Rattle.cap_leaf.specs.declared.leaf.Leaf.TheVariants.{Num}
use Rattle.cap_leaf.specs.Trees.{children_view}
use Rattle.cap_fields.proofs.Views.{data_leaf, followed_none}
use Rattle.cap_fields.proofs.refused.with_num.Goals as goal

pub returns-in-Some : goal.returns-in-Some
returns-in-Some c = rw c.in-Some.is (rw (← data_leaf (Num c.in-Some.n)) c.with.ensures)

pub returns-in-None : goal.returns-in-None
returns-in-None c = rw c.in-None.is (sym (followed_none (children_view c.args.children)))
