-- What the tables keep: sibling tags differ, each row can stand as often as it has to, a tag is a name.
use Rattle.std.specs.Prelude.{ℕ, suc, ◌≡◌, ◌≤◌, ⊤, Bool, true, false, ◌&&◌, not, nat_le, nat_lt, ◌==◌, List, [], ◌∷◌, length, codes, Option, Some, None}
use Rattle.std.specs.List.{list_all}
use Rattle.std.specs.Str.{bytes_eq}
use Rattle.cap_leaf.specs.declared.kinds.LeafKind.{LeafKind}
use Rattle.cap_leaf.specs.declared.kinds.LeafKind.TheVariants as kind
use Rattle.cap_leaf.specs.declared.leaf.Leaf.{Leaf}
use Rattle.cap_leaf.specs.Codes.{codes_of}
use Rattle.cap_leaf.specs.Schema.{Content, Table, leaf, all, one_of, end, row}
use Rattle.cap_leaf.specs.Spelling.{leaf_of, is_kind}

abbrev pub Other : List ℕ → List ℕ → Type 0
Other t tag = bytes_eq t tag ≡ false

abbrev pub AllTags : (List ℕ → Type 0) → Table → Type 0
AllTags P end = ⊤
AllTags P (row t least most c rest) = P t × AllTags P rest

-- sibling tags differ, in every table
abbrev mutual
  pub Differ : Table → Type 0
  Differ end = ⊤
  Differ (row t least most c rest) = AllTags (Other t) rest × DifferIn c × Differ rest

  pub DifferIn : Content → Type 0
  DifferIn (leaf k) = ⊤
  DifferIn (all t) = Differ t
  DifferIn (one_of t) = Differ t

abbrev pub no_tag : List ℕ → Table → Bool
no_tag t end = true
no_tag t (row g least most c rest) = not (bytes_eq t g) && no_tag t rest

abbrev mutual
  pub differ_test : Table → Bool
  differ_test end = true
  differ_test (row t least most c rest) = no_tag t rest && (differ_in c && differ_test rest)

  pub differ_in : Content → Bool
  differ_in (leaf k) = true
  differ_in (all t) = differ_test t
  differ_in (one_of t) = differ_test t

-- a byte that doesn't end a piece
abbrev pub is_plain : ℕ → Bool
is_plain b = not (b == 62)

-- a tag has 1 to 30 bytes, none of them a `>`, and doesn't begin with `/`
abbrev pub is_name : List ℕ → Bool
is_name [] = false
is_name (b ∷ bs) = not (47 == b) && (nat_le (length (b ∷ bs)) 30 && list_all is_plain (b ∷ bs))

abbrev pub first_or : List (List ℕ) → List ℕ
first_or [] = []
first_or (c ∷ cs) = c

-- some text of a kind
abbrev pub sample : LeafKind → List ℕ
sample (kind.Num d) = codes "0"
sample kind.Amount = codes "1"
sample kind.Sum = codes "0"
sample kind.Ident = codes "A"
sample kind.Account = codes "00000000"
sample kind.Code6 = codes "AAAAAA"
sample kind.DateTime = codes "2023-11-14T22:13:20"
sample (kind.Code l) = first_or (codes_of l)

abbrev pub is_some : Option Leaf → Bool
is_some None = false
is_some (Some x) = true

abbrev pub has_row : Table → Bool
has_row end = false
has_row (row t least most c rest) = true

abbrev mutual
  pub sound_test : Table → Bool
  sound_test end = true
  sound_test (row t least most c rest) = (nat_le least most && is_name t) && (sound_in c && sound_test rest)

  pub sound_in : Content → Bool
  sound_in (leaf k) = is_kind k && is_some (leaf_of k (sample k))
  sound_in (all t) = sound_test t
  sound_in (one_of t) = sound_test t && has_row t

-- every row can stand as often as it has to, and each tag is a name
abbrev mutual
  pub Sound : Table → Type 0
  Sound end = ⊤
  Sound (row t least most c rest) = (least ≤ most) × (is_name t ≡ true) × SoundIn c × Sound rest

  pub SoundIn : Content → Type 0
  SoundIn (leaf k) = (text : List ℕ) × (x : Leaf) × (leaf_of k text ≡ Some x) × (is_kind k ≡ true)
  SoundIn (all t) = Sound t
  SoundIn (one_of t) = Sound t × (has_row t ≡ true)

-- how many rows a table has
abbrev pub rows_in : Table → ℕ
rows_in end = 0
rows_in (row t least most c rest) = suc (rows_in rest)

-- every table in it has fewer than 256 rows, so that a place in it is a byte, and every kind of leaf is in its range
abbrev mutual
  pub bounded_test : Table → Bool
  bounded_test end = true
  bounded_test (row t least most c rest) = bounded_in c && bounded_test rest

  pub bounded_in : Content → Bool
  bounded_in (leaf k) = is_kind k
  bounded_in (all t) = nat_lt (rows_in t) 256 && bounded_test t
  bounded_in (one_of t) = nat_lt (rows_in t) 256 && bounded_test t
