-- The trees that fit a table.
use Rattle.std.specs.Prelude.{ℕ, suc, ◌≡◌, ◌<◌, ◌≤◌, true, List}
use Rattle.cap_leaf.specs.declared.kinds.Kind.{Kind}
use Rattle.cap_leaf.specs.declared.kinds.LeafKind.{LeafKind}
use Rattle.cap_leaf.specs.declared.leaf.Leaf.{Leaf}
use Rattle.cap_leaf.specs.Schema.{Content, Table, leaf, all, one_of, end, row}
use Rattle.cap_leaf.specs.Spelling.{is_kind, is_leaf, IsLeafOf}
use Rattle.cap_leaf.specs.Trees.{Data, Children, value, branch, none, child}
use Rattle.cap_trees.specs.Tables.{table_of}

mutual
  -- A tree fits what stands between an opening and its closing.
  pub data Fits : Content → Data → Type 0 where
    -- a leaf of the kind, in its range
    a_leaf : {k : LeafKind} {x : Leaf} → is_kind k ≡ true → IsLeafOf k x → is_leaf x ≡ true → Fits (leaf k) (value x)
    -- children in the order of a table
    in_order : {t : Table} {cs : Children} → FitsRows t 0 0 cs → Fits (all t) (branch cs)
    -- one child by one row of a table
    a_choice : {t : Table} {at : ℕ} {d : Data} → FitsRow t 0 at d → Fits (one_of t) (branch (child at d none))

  -- Children fit the rest of a table, whose first row has this place and has stood that often.
  pub data FitsRows : Table → ℕ → ℕ → Children → Type 0 where
    no_row : {at n : ℕ} → FitsRows end at n none
    one_more : {tag : List ℕ} {least most : ℕ} {c : Content} {rest : Table} {at n : ℕ} {d : Data} {cs : Children}
        → n < most → Fits c d → FitsRows (row tag least most c rest) at (suc n) cs → FitsRows (row tag least most c rest) at n (child at d cs)
    next_row : {tag : List ℕ} {least most : ℕ} {c : Content} {rest : Table} {at n : ℕ} {cs : Children}
        → least ≤ n → FitsRows rest (suc at) 0 cs → FitsRows (row tag least most c rest) at n cs

  -- One child, at a place, fits a row of the rest of a table, whose first row has a place.
  pub data FitsRow : Table → ℕ → ℕ → Data → Type 0 where
    this_row : {tag : List ℕ} {least most : ℕ} {c : Content} {rest : Table} {at : ℕ} {d : Data} → Fits c d → FitsRow (row tag least most c rest) at at d
    other_row : {tag : List ℕ} {least most : ℕ} {c : Content} {rest : Table} {at place : ℕ} {d : Data}
        → FitsRow rest (suc at) place d → FitsRow (row tag least most c rest) at place d

-- the tree of a message element of the kind
abbrev pub FitsKind : Kind → Data → Type 0
FitsKind k d = FitsRows (table_of k) 0 0 (child 0 d none)
