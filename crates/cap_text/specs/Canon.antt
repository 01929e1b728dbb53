-- The canonical text of a tree, over the pieces of the grammar.
use Rattle.std.specs.Prelude.{ℕ, zero, suc, List, [], ◌∷◌, ◌++◌, codes, Option, Some, None}
use Rattle.cap_leaf.specs.declared.kinds.Kind.{Kind}
use Rattle.cap_leaf.specs.Schema.{Table, end, row, Row, table_in}
use Rattle.cap_leaf.specs.Trees.{Data, Children, value, branch, none, child}
use Rattle.cap_leaf.specs.Canonical.{leaf_text}
use Rattle.cap_trees.specs.Tables.{table_of}
use Rattle.cap_text.specs.Pieces.{Piece, document, opening, closing, leaf_opening, ending, text_of}

-- the row at a place, from 0
abbrev pub row_at : Table → ℕ → Option Row
row_at end at = None
row_at (row tag least most content rest) zero = Some record { tag = tag; least = least; most = most; content = content }
row_at (row tag least most content rest) (suc at) = row_at rest at

abbrev pub by_row : Option Row → (Row → List Piece) → List Piece
by_row None f = []
by_row (Some r) f = f r

abbrev mutual
  -- the pieces of an element by its row: no white space, and the canonical text of each leaf
  pub element : Data → Row → List Piece
  element (value x) r = leaf_opening r.tag ∷ ending r.tag (leaf_text x) ∷ []
  element (branch cs) r = opening r.tag ∷ (children cs (table_in r.content) ++ closing r.tag ∷ [])

  pub children : Children → Table → List Piece
  children none t = []
  children (child at d rest) t = by_row (row_at t at) (element d) ++ children rest t

-- the document of a message element's tree
abbrev pub canonical : Kind → Data → List Piece
canonical k d = document k ∷ (children (child 0 d none) (table_of k) ++ closing (codes "Document") ∷ [])

abbrev pub canonical_text : Kind → Data → List ℕ
canonical_text k d = text_of (canonical k d)
