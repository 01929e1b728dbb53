use Rattle.std.proofs.Common.{drop}
use Rattle.cap_text.proofs.Writing.{Writes}
use Rattle.cap_text.proofs.write.+put.Given as goal

abbrev pub invariant-put_children-loop-child : goal.invariant-put_children-loop-child
invariant-put_children-loop-child l = Writes (drop l.child-index l.children) l.nodes l.fn.children l.fn.out.items l.out.items
