-- Tables of the messages, as plain data.
use Rattle.std.specs.Prelude.{ℕ, List}
use Rattle.cap_leaf.specs.declared.kinds.LeafKind.{LeafKind}

mutual
  -- what stands between an opening and its closing
  pub data Content : Type 0 where
    leaf : LeafKind → Content
    all : Table → Content
    one_of : Table → Content

  -- children in their order, each with its tag, the least and the greatest number of times that it stands, and its content
  pub data Table : Type 0 where
    end : Table
    row : List ℕ → ℕ → ℕ → Content → Table → Table

-- a row of a table
pub record Row : Type 0 where
  pub tag : List ℕ
  pub least : ℕ
  pub most : ℕ
  pub content : Content

-- the table of a structure's children
abbrev pub table_in : Content → Table
table_in (leaf k) = end
table_in (all t) = t
table_in (one_of t) = t
