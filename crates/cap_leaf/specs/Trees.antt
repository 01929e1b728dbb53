-- Trees as plain data.
use Rattle.std.specs.Prelude.{ℕ, List, [], ◌∷◌, map}
use Rattle.cap_leaf.specs.declared.leaf.Leaf.{Leaf}
use Rattle.cap_leaf.specs.declared.tree.Tree.{Tree, fold-Tree}
use Rattle.cap_leaf.specs.declared.tree.Child.{Child, fold-Child}
use Rattle.cap_leaf.specs.declared.tree.Tree.TheOpen.{Tree-F, Child-F}

mutual
  pub data Data : Type 0 where
    value : Leaf → Data
    branch : Children → Data

  -- each child with its place in the table
  pub data Children : Type 0 where
    none : Children
    child : ℕ → Data → Children → Children

abbrev pub children_of : List (Children → Children) → Children
children_of [] = none
children_of (c ∷ cs) = c (children_of cs)

abbrev pub tree_step : Tree-F Data (Children → Children) → Data
tree_step (Tree-F.Leaf x) = value x
tree_step (Tree-F.Branch cs) = branch (children_of cs)

abbrev pub child_step : Child-F Data (Children → Children) → Children → Children
child_step c rest = child c.at c.tree rest

unfoldable pub data_of : Tree → Data
data_of = fold-Tree Data (Children → Children) tree_step child_step

unfoldable pub child_of : Child → Children → Children
child_of = fold-Child Data (Children → Children) tree_step child_step

abbrev pub children_view : List Child → Children
children_view cs = children_of (map child_of cs)
