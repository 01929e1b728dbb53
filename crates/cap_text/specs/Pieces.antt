-- The pieces of a document's text, and which pieces make a document of a tree.
use Rattle.std.specs.Prelude.{ℕ, suc, ◌≡◌, ◌<◌, ◌≤◌, ⊤, Bool, true, false, ◌||◌, ◌==◌, List, [], ◌∷◌, ◌++◌, codes, flat_map}
use Rattle.std.specs.List.{list_all}
use Rattle.cap_leaf.specs.declared.kinds.Kind.{Kind}
use Rattle.cap_leaf.specs.declared.kinds.Kind.TheVariants.{Caaa001, Caaa002, Caaa003, Caaa004, Caaa005, Caaa006, Caaa007, Caaa008, Caaa009, Caaa010, Caaa011, Caaa012, Caaa013, Caaa014, Caaa015, Catm001, Catm002, Catm003, Catm004}
use Rattle.cap_leaf.specs.declared.kinds.LeafKind.{LeafKind}
use Rattle.cap_leaf.specs.declared.leaf.Leaf.{Leaf}
use Rattle.cap_leaf.specs.Spelling.{SpellsLeaf}
use Rattle.cap_leaf.specs.Schema.{Content, Table, leaf, all, one_of, end, row}
use Rattle.cap_leaf.specs.Trees.{Data, Children, value, branch, none, child}
use Rattle.cap_trees.specs.Tables.{table_of}

-- A piece of a document's text.
pub data Piece : Type 0 where
  -- with `standalone` or without
  declaration : Bool → Piece
  -- white space
  blank : List ℕ → Piece
  -- the opening of `Document`
  document : Kind → Piece
  -- the opening and the closing of a structure
  opening : List ℕ → Piece
  closing : List ℕ → Piece
  leaf_opening : List ℕ → Piece
  -- the tag and the content of a leaf: its content together with its closing
  ending : List ℕ → List ℕ → Piece

-- the number of a message
abbrev pub number_of : Kind → List ℕ
number_of Caaa001 = codes "caaa.001"
number_of Caaa002 = codes "caaa.002"
number_of Caaa003 = codes "caaa.003"
number_of Caaa004 = codes "caaa.004"
number_of Caaa005 = codes "caaa.005"
number_of Caaa006 = codes "caaa.006"
number_of Caaa007 = codes "caaa.007"
number_of Caaa008 = codes "caaa.008"
number_of Caaa009 = codes "caaa.009"
number_of Caaa010 = codes "caaa.010"
number_of Caaa011 = codes "caaa.011"
number_of Caaa012 = codes "caaa.012"
number_of Caaa013 = codes "caaa.013"
number_of Caaa014 = codes "caaa.014"
number_of Caaa015 = codes "caaa.015"
number_of Catm001 = codes "catm.001"
number_of Catm002 = codes "catm.002"
number_of Catm003 = codes "catm.003"
number_of Catm004 = codes "catm.004"

abbrev pub opening_text : List ℕ → List ℕ
opening_text tag = 60 ∷ (tag ++ 62 ∷ [])

abbrev pub closing_text : List ℕ → List ℕ
closing_text tag = 60 ∷ 47 ∷ (tag ++ 62 ∷ [])

abbrev pub document_text : Kind → List ℕ
document_text k = codes "<Document xmlns=\"urn:x-cap20:1:" ++ (number_of k ++ codes "\">")

abbrev pub declaration_text : Bool → List ℕ
declaration_text false = codes "<?xml version=\"1.0\" encoding=\"UTF-8\"?>"
declaration_text true = codes "<?xml version=\"1.0\" encoding=\"UTF-8\" standalone=\"yes\"?>"

abbrev pub piece_text : Piece → List ℕ
piece_text (declaration standalone) = declaration_text standalone
piece_text (blank text) = text
piece_text (document k) = document_text k
piece_text (opening tag) = opening_text tag
piece_text (closing tag) = closing_text tag
piece_text (leaf_opening tag) = opening_text tag
piece_text (ending tag content) = content ++ closing_text tag

abbrev pub text_of : List Piece → List ℕ
text_of = flat_map piece_text

-- space, tab, carriage return, line feed
abbrev pub is_space : ℕ → Bool
is_space b = (b == 32) || ((b == 9) || ((b == 13) || (b == 10)))

-- a run of white space that isn't empty
abbrev pub is_white : List ℕ → Bool
is_white [] = false
is_white (b ∷ bs) = list_all is_space (b ∷ bs)

abbrev pub IsWhite : List ℕ → Type 0
IsWhite text = is_white text ≡ true

abbrev pub AreWhite : List Piece → Type 0
AreWhite [] = ⊤
AreWhite (blank text ∷ ps) = IsWhite text × AreWhite ps
AreWhite (declaration standalone ∷ ps) = ⊥
AreWhite (document k ∷ ps) = ⊥
AreWhite (opening tag ∷ ps) = ⊥
AreWhite (closing tag ∷ ps) = ⊥
AreWhite (leaf_opening tag ∷ ps) = ⊥
AreWhite (ending tag content ∷ ps) = ⊥

mutual
  -- An element of this tag and content, and its tree, is written by these pieces.
  pub data Element : List ℕ → Content → Data → List Piece → Type 0 where
    a_leaf : {tag : List ℕ} {k : LeafKind} {x : Leaf} {content : List ℕ}
        → SpellsLeaf k x content → Element tag (leaf k) (value x) (leaf_opening tag ∷ ending tag content ∷ [])
    in_order : {tag : List ℕ} {t : Table} {cs : Children} {ps : List Piece} → Rows t 0 0 cs ps
        → Element tag (all t) (branch cs) (opening tag ∷ (ps ++ closing tag ∷ []))
    a_choice : {tag : List ℕ} {t : Table} {at : ℕ} {d : Data} {ps : List Piece} → Choice t 0 at d ps
        → Element tag (one_of t) (branch (child at d none)) (opening tag ∷ (ps ++ closing tag ∷ []))

  -- Children by the rest of a table, whose first row has this place and has stood that often.
  pub data Rows : Table → ℕ → ℕ → Children → List Piece → Type 0 where
    no_row : {at n : ℕ} → Rows end at n none []
    white : {t : Table} {at n : ℕ} {cs : Children} {text : List ℕ} {ps : List Piece} → IsWhite text → Rows t at n cs ps → Rows t at n cs (blank text ∷ ps)
    one_more : {tag : List ℕ} {least most : ℕ} {c : Content} {rest : Table} {at n : ℕ} {d : Data} {cs : Children} {ps qs : List Piece}
        → n < most → Element tag c d ps → Rows (row tag least most c rest) at (suc n) cs qs
        → Rows (row tag least most c rest) at n (child at d cs) (ps ++ qs)
    next_row : {tag : List ℕ} {least most : ℕ} {c : Content} {rest : Table} {at n : ℕ} {cs : Children} {qs : List Piece}
        → least ≤ n → Rows rest (suc at) 0 cs qs → Rows (row tag least most c rest) at n cs qs

  -- One child by a row of the rest of a table, whose first row has this place.
  pub data Choice : Table → ℕ → ℕ → Data → List Piece → Type 0 where
    white_first : {t : Table} {at place : ℕ} {d : Data} {text : List ℕ} {ps : List Piece} → IsWhite text → Choice t at place d ps → Choice t at place d (blank text ∷ ps)
    this_row : {tag : List ℕ} {least most : ℕ} {c : Content} {rest : Table} {at : ℕ} {d : Data} {ps : List Piece}
        → Element tag c d ps → (qs : List Piece) → AreWhite qs → Choice (row tag least most c rest) at at d (ps ++ qs)
    other_row : {tag : List ℕ} {least most : ℕ} {c : Content} {rest : Table} {at place : ℕ} {d : Data} {ps : List Piece}
        → Choice rest (suc at) place d ps → Choice (row tag least most c rest) at place d ps

-- nothing or a declaration, then white space
abbrev pub IsProlog : List Piece → Type 0
IsProlog [] = ⊤
IsProlog (declaration standalone ∷ ps) = AreWhite ps
IsProlog (blank text ∷ ps) = IsWhite text × AreWhite ps
IsProlog (document k ∷ ps) = ⊥
IsProlog (opening tag ∷ ps) = ⊥
IsProlog (closing tag ∷ ps) = ⊥
IsProlog (leaf_opening tag ∷ ps) = ⊥
IsProlog (ending tag content ∷ ps) = ⊥

-- A document of the kind and the tree is: nothing or a declaration, white space, the opening of `Document`, white space,
-- the message element, white space, the closing of `Document`, white space.
pub record IsDocument (k : Kind) (d : Data) (ps : List Piece) : Type 0 where
  pub front : List Piece
  pub body : List Piece
  pub back : List Piece
  pub is : ps ≡ front ++ document k ∷ (body ++ closing (codes "Document") ∷ back)
  pub prolog : IsProlog front
  pub message : Rows (table_of k) 0 0 (child 0 d none) body
  pub spaces : AreWhite back

-- the bytes spell the tree of the kind
abbrev pub Spells : Kind → Data → List ℕ → Type 0
Spells k d bytes = (ps : List Piece) × IsDocument k d ps × (bytes ≡ text_of ps)
