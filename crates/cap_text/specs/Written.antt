-- What writing knows of a tree: each child has a row that it fits, and the canonical text of each leaf spells it.
use Rattle.std.specs.Prelude.{⊤, Option, Some, None}
use Rattle.cap_leaf.specs.declared.leaf.Leaf.{Leaf}
use Rattle.cap_leaf.specs.Schema.{Content, Table, leaf, all, one_of, Row, table_in}
use Rattle.cap_leaf.specs.Spelling.{SpellsLeaf}
use Rattle.cap_leaf.specs.Trees.{Data, Children, value, branch, none, child}
use Rattle.cap_leaf.specs.Canonical.{leaf_text}
use Rattle.cap_trees.specs.Fits.{Fits}
use Rattle.cap_text.specs.Canon.{row_at}

abbrev pub FitsAt : Option Row → Data → Type 0
FitsAt None d = ⊥
FitsAt (Some r) d = Fits r.content d

abbrev pub EachFits : Children → Table → Type 0
EachFits none t = ⊤
EachFits (child at d rest) t = FitsAt (row_at t at) d × EachFits rest t

abbrev pub IsSpelt : Content → Leaf → Type 0
IsSpelt (leaf k) x = SpellsLeaf k x (leaf_text x)
IsSpelt (all t) x = ⊤
IsSpelt (one_of t) x = ⊤

abbrev pub SpeltAt : Option Row → (Row → Type 0) → Type 0
SpeltAt None P = ⊤
SpeltAt (Some r) P = P r

abbrev mutual
  pub AreSpelt : Data → Row → Type 0
  AreSpelt (value x) r = IsSpelt r.content x
  AreSpelt (branch cs) r = EachSpelt cs (table_in r.content)

  pub EachSpelt : Children → Table → Type 0
  EachSpelt none t = ⊤
  EachSpelt (child at d rest) t = SpeltAt (row_at t at) (AreSpelt d) × EachSpelt rest t
