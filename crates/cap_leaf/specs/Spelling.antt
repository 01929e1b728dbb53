-- The leaf that a text spells as a kind, if it spells one.
use Rattle.std.specs.Prelude.{ℕ, suc, ◌≡◌, ◌<◌, ◌^◌, ⊤, Bool, true, ◌&&◌, nat_le, nat_lt, length, if◌then◌else◌, List, [], ◌∷◌, Option, Some, None, option_map}
use Rattle.std.specs.Str.{bytes_eq}
use Rattle.cap_base.specs.Text.{is_ident, is_account, is_code6, ident_of, account_of, code6_of}
use Rattle.cap_base.specs.Number.{number_of}
use Rattle.cap_base.specs.Amount.{IsAmount, amount_of, decimal_of}
use Rattle.cap_leaf.specs.declared.kinds.LeafKind.{LeafKind}
use Rattle.cap_leaf.specs.declared.kinds.LeafKind.TheVariants as kind
use Rattle.cap_leaf.specs.declared.leaf.Leaf.{Leaf}
use Rattle.cap_leaf.specs.declared.leaf.Leaf.TheVariants as leaf
use Rattle.cap_leaf.specs.Codes.{codes_of, is_list}
use Rattle.cap_leaf.specs.Date.{is_date_time}
use Rattle.cap_leaf.specs.DateText.{date_time_of}

-- the place of a text in a list of codes, counted from a number
abbrev pub place_in : List (List ℕ) → ℕ → List ℕ → Option ℕ
place_in [] at text = None
place_in (code ∷ rest) at text = if bytes_eq code text then Some at else place_in rest (suc at) text

abbrev pub leaf_of : LeafKind → List ℕ → Option Leaf
leaf_of (kind.Num d) text = option_map leaf.Num (number_of d text)
leaf_of kind.Amount text = option_map leaf.Amount (amount_of text)
leaf_of kind.Sum text = option_map leaf.Sum (decimal_of 17 text)
leaf_of kind.Ident text = option_map leaf.Ident (ident_of text)
leaf_of kind.Account text = option_map leaf.Account (account_of text)
leaf_of kind.Code6 text = option_map leaf.Code6 (code6_of text)
leaf_of kind.DateTime text = option_map leaf.DateTime (date_time_of text)
leaf_of (kind.Code list) text = option_map (leaf.Code list) (place_in (codes_of list) 0 text)

-- a text is some spelling of a leaf
abbrev pub SpellsLeaf : LeafKind → Leaf → List ℕ → Type 0
SpellsLeaf k x text = leaf_of k text ≡ Some x

-- a kind in its range: a number has 1 to 10 digits, and a protocol is a digit
abbrev pub is_kind : LeafKind → Bool
is_kind (kind.Num d) = nat_le 1 d && nat_le d 10
is_kind kind.Amount = true
is_kind kind.Sum = true
is_kind kind.Ident = true
is_kind kind.Account = true
is_kind kind.Code6 = true
is_kind kind.DateTime = true
is_kind (kind.Code l) = is_list l

-- the ranges of a leaf: a number has at most 10 digits, a sum of money is below 10^19 hundredths, and a code stands in its list
abbrev pub is_leaf : Leaf → Bool
is_leaf (leaf.Num n) = nat_lt n (10 ^ 10)
is_leaf (leaf.Amount n) = true
is_leaf (leaf.Sum n) = nat_lt n (10 ^ 19)
is_leaf (leaf.Ident text) = true
is_leaf (leaf.Account text) = true
is_leaf (leaf.Code6 text) = true
is_leaf (leaf.DateTime d) = true
is_leaf (leaf.Code l at) = is_list l && nat_lt at (length (codes_of l))

-- a leaf is one of a kind
abbrev pub IsLeafOf : LeafKind → Leaf → Type 0
IsLeafOf (kind.Num d) (leaf.Num n) = n < 10 ^ d
IsLeafOf kind.Amount (leaf.Amount n) = ⊤
IsLeafOf kind.Sum (leaf.Sum n) = ⊤
IsLeafOf kind.Ident (leaf.Ident text) = ⊤
IsLeafOf kind.Account (leaf.Account text) = ⊤
IsLeafOf kind.Code6 (leaf.Code6 text) = ⊤
IsLeafOf kind.DateTime (leaf.DateTime d) = ⊤
IsLeafOf (kind.Code m) (leaf.Code l at) = l ≡ m
IsLeafOf k x = ⊥

-- the rules of the payload's own type
abbrev pub IsValue : Leaf → Type 0
IsValue (leaf.Num n) = ⊤
IsValue (leaf.Amount n) = IsAmount n
IsValue (leaf.Sum n) = ⊤
IsValue (leaf.Ident text) = is_ident text ≡ true
IsValue (leaf.Account text) = is_account text ≡ true
IsValue (leaf.Code6 text) = is_code6 text ≡ true
IsValue (leaf.DateTime d) = is_date_time d ≡ true
IsValue (leaf.Code l at) = ⊤
