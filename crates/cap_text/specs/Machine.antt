-- The machine that reads pieces, one at a time.
use Rattle.std.specs.Prelude.{ℕ, suc, List, [], ◌∷◌, codes, Bool, true, false, ◌&&◌, if◌then◌else◌, nat_lt, Option, Some, None, option_and_then}
use Rattle.std.specs.Str.{bytes_eq}
use Rattle.cap_leaf.specs.declared.kinds.Kind.{Kind}
use Rattle.cap_leaf.specs.declared.kinds.LeafKind.{LeafKind}
use Rattle.cap_leaf.specs.declared.leaf.Leaf.{Leaf}
use Rattle.cap_leaf.specs.Spelling.{leaf_of}
use Rattle.cap_leaf.specs.Schema.{Content, Table, leaf, all, one_of, end, row}
use Rattle.cap_leaf.specs.Trees.{Data, Children, value, branch, none, child}
use Rattle.cap_trees.specs.Tables.{table_of}
use Rattle.cap_text.specs.Pieces.{Piece, declaration, blank, document, opening, closing, leaf_opening, ending, is_white}

-- What may still stand in an open structure.
pub data Left : Type 0 where
  -- children by the rest of a table, whose first row has this place and has stood that often
  rows : Table → ℕ → ℕ → Left
  -- one child by a row of a table
  choice : Table → Left
  -- nothing more
  filled : Left

-- a child that was read: its place and its tree
pub record Read : Type 0 where
  pub at : ℕ
  pub tree : Data

-- An open structure: its tag, what may still stand in it, the place of the child that was opened last, and the children
-- that were read, the last one first.
pub record Frame : Type 0 where
  pub tag : List ℕ
  pub left : Left
  pub last : ℕ
  pub done : List Read

-- The open structures, the innermost first; the same around an open leaf; or a whole element.
pub data State : Type 0 where
  inside : List Frame → State
  in_leaf : List ℕ → LeafKind → List Frame → State
  whole : Data → State

-- where an opening leads: what may stand after it, the child's place and its content
pub record Found : Type 0 where
  pub left : Left
  pub at : ℕ
  pub content : Content

abbrev pub seek : Table → ℕ → ℕ → List ℕ → Option Found
seek end at n tag = None
seek (row t least most c rest) at n tag =
    if bytes_eq t tag then (if nat_lt n most then Some record { left = rows (row t least most c rest) at (suc n); at = at; content = c } else None)
    else (if nat_lt n least then None else seek rest (suc at) 0 tag)

abbrev pub pick : Table → ℕ → List ℕ → Option Found
pick end at tag = None
pick (row t least most c rest) at tag =
    if bytes_eq t tag then Some record { left = filled; at = at; content = c } else pick rest (suc at) tag

abbrev pub look : Left → List ℕ → Option Found
look (rows t at n) tag = seek t at n tag
look (choice t) tag = pick t 0 tag
look filled tag = None

-- no row of the rest has to stand once more
abbrev pub satisfied : Table → ℕ → Bool
satisfied end n = true
satisfied (row t least most c rest) n = if nat_lt n least then false else satisfied rest 0

abbrev pub ready : Left → Bool
ready (rows t at n) = satisfied t n
ready (choice t) = false
ready filled = true

abbrev pub onto : List Read → Children → Children
onto [] cs = cs
onto (r ∷ rs) cs = onto rs (child r.at r.tree cs)

-- an element is closed
abbrev pub close : List Frame → Data → State
close [] d = whole d
close (f ∷ fs) d = inside (record f { done = record { at = f.last; tree = d } ∷ f.done } ∷ fs)

abbrev pub fresh : List ℕ → Left → Frame
fresh tag left = record { tag = tag; left = left; last = 0; done = [] }

-- a structure is opened
abbrev pub enter : List ℕ → Content → List Frame → Option State
enter tag (leaf k) fs = None
enter tag (all t) fs = Some (inside (fresh tag (rows t 0 0) ∷ fs))
enter tag (one_of t) fs = Some (inside (fresh tag (choice t) ∷ fs))

-- a leaf is opened
abbrev pub enter_leaf : List ℕ → Content → List Frame → Option State
enter_leaf tag (leaf k) fs = Some (in_leaf tag k fs)
enter_leaf tag (all t) fs = None
enter_leaf tag (one_of t) fs = None

-- the structure around a child that is opened
abbrev pub around : Frame → Found → Frame
around f found = record f { left = found.left; last = found.at }

abbrev pub opened : Frame → List Frame → List ℕ → Option Found → Option State
opened f fs tag None = None
opened f fs tag (Some found) = enter tag found.content (around f found ∷ fs)

abbrev pub leaf_opened : Frame → List Frame → List ℕ → Option Found → Option State
leaf_opened f fs tag None = None
leaf_opened f fs tag (Some found) = enter_leaf tag found.content (around f found ∷ fs)

abbrev pub filled_by : List Frame → Option Leaf → Option State
filled_by fs None = None
filled_by fs (Some x) = Some (close fs (value x))

abbrev pub step : State → Piece → Option State
step (inside fs) (blank text) = if is_white text then Some (inside fs) else None
step (inside fs) (declaration standalone) = None
step (inside fs) (document k) = None
step (inside []) (opening tag) = None
step (inside []) (closing tag) = None
step (inside []) (leaf_opening tag) = None
step (inside (f ∷ fs)) (opening tag) = opened f fs tag (look f.left tag)
step (inside (f ∷ fs)) (leaf_opening tag) = leaf_opened f fs tag (look f.left tag)
step (inside (f ∷ fs)) (closing tag) = if bytes_eq f.tag tag && ready f.left then Some (close fs (branch (onto f.done none))) else None
step (inside fs) (ending tag content) = None
step (in_leaf t k fs) (declaration standalone) = None
step (in_leaf t k fs) (blank text) = None
step (in_leaf t k fs) (document j) = None
step (in_leaf t k fs) (opening tag) = None
step (in_leaf t k fs) (closing tag) = None
step (in_leaf t k fs) (leaf_opening tag) = None
step (in_leaf t k fs) (ending tag content) = if bytes_eq t tag then filled_by fs (leaf_of k content) else None
step (whole d) (blank text) = if is_white text then Some (whole d) else None
step (whole d) (declaration standalone) = None
step (whole d) (document k) = None
step (whole d) (opening tag) = None
step (whole d) (closing tag) = None
step (whole d) (leaf_opening tag) = None
step (whole d) (ending tag content) = None

abbrev pub run : List Piece → State → Option State
run [] s = Some s
run (p ∷ ps) s = option_and_then (run ps) (step s p)

-- Where a document stands: nothing is read; a declaration or white space is; or the opening of `Document` is.
pub data Doc : Type 0 where
  first : Doc
  prolog : Doc
  within : Kind → State → Doc

-- `Document` is open
abbrev pub root : Kind → State
root k = inside (fresh (codes "Document") (rows (table_of k) 0 0) ∷ [])

abbrev pub within_if : Kind → Option State → Option Doc
within_if k None = None
within_if k (Some s) = Some (within k s)

abbrev pub doc_step : Doc → Piece → Option Doc
doc_step first (declaration standalone) = Some prolog
doc_step first (blank text) = if is_white text then Some prolog else None
doc_step first (document k) = Some (within k (root k))
doc_step first (opening tag) = None
doc_step first (closing tag) = None
doc_step first (leaf_opening tag) = None
doc_step first (ending tag content) = None
doc_step prolog (declaration standalone) = None
doc_step prolog (blank text) = if is_white text then Some prolog else None
doc_step prolog (document k) = Some (within k (root k))
doc_step prolog (opening tag) = None
doc_step prolog (closing tag) = None
doc_step prolog (leaf_opening tag) = None
doc_step prolog (ending tag content) = None
doc_step (within k s) p = within_if k (step s p)

abbrev pub doc_run : List Piece → Doc → Option Doc
doc_run [] d = Some d
doc_run (p ∷ ps) d = option_and_then (doc_run ps) (doc_step d p)
