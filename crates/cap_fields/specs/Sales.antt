-- The structures that tell how a sale ended, and of a cancelled sale.
use Rattle.std.specs.Prelude.{ℕ, List, [], ◌∷◌}
use Rattle.cap_leaf.specs.declared.leaf.Leaf.TheVariants.{Num, Amount, Account, Code6}
use Rattle.cap_leaf.specs.Trees.{Data, branch, none, child}
use Rattle.cap_fields.specs.Fields.{record_of}

abbrev pub sale_tree : ℕ → ℕ → List ℕ → List ℕ → Data
sale_tree n amount account code = record_of (Num n ∷ Amount amount ∷ Account account ∷ Code6 code ∷ [])

abbrev pub void_tree : ℕ → Data
void_tree n = record_of (Num n ∷ [])

abbrev pub cancel_tree : ℕ → ℕ → Data
cancel_tree n amount = record_of (Num n ∷ Amount amount ∷ [])

-- a structure of one child, at the place of its row
abbrev pub chosen : ℕ → Data → Data
chosen at d = branch (child at d none)
