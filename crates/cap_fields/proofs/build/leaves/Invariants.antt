use Rattle.std.proofs.Common.{◌≡◌, ◌++◌, drop}
use Rattle.cap_fields.proofs.Views.{leaf_children}
use Rattle.cap_fields.proofs.build.leaves.Given as goal

abbrev pub invariant-loop-at : goal.invariant-loop-at
invariant-loop-at l = l.children ++ leaf_children l.at (drop l.at l.leaves) ≡ leaf_children 0 l.leaves
