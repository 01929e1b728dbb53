-- Structures by their children: leaves and structures at places of a table, and what stands at a place.
use Rattle.std.specs.Prelude.{ℕ, suc, ◌==◌, if◌then◌else◌, List, [], ◌∷◌, Option, Some, None, option_and_then}
use Rattle.cap_leaf.specs.Date.{DateParts}
use Rattle.cap_leaf.specs.declared.leaf.Leaf.{Leaf}
use Rattle.cap_leaf.specs.declared.leaf.Leaf.TheVariants.{Num, Amount, Sum, Ident, Account, Code6, DateTime, Code}
use Rattle.cap_leaf.specs.Trees.{Data, Children, value, branch, none, child}

-- leaves at places in a row, from a place on
abbrev pub numbered : ℕ → List Leaf → Children
numbered at [] = none
numbered at (x ∷ xs) = child at (value x) (numbered (suc at) xs)

-- a structure of these leaves
abbrev pub record_of : List Leaf → Data
record_of xs = branch (numbered 0 xs)

-- children, and others after them
abbrev pub followed_by : Children → Children → Children
followed_by none more = more
followed_by (child at d rest) more = child at d (followed_by rest more)

-- a number at a place, where there is one, before other children
abbrev pub maybe_num : ℕ → Option ℕ → Children → Children
maybe_num at None rest = rest
maybe_num at (Some n) rest = child at (value (Num n)) rest

-- children at one place
abbrev pub repeated : ℕ → List Data → Children
repeated at [] = none
repeated at (d ∷ ds) = child at d (repeated at ds)

-- the children of a structure; a leaf has none
abbrev pub inside : Data → Children
inside (value x) = none
inside (branch cs) = cs

-- the first child at a place
abbrev pub child_among : Children → ℕ → Option Data
child_among none at = None
child_among (child place d rest) at = if place == at then Some d else child_among rest at

abbrev pub child_in : Data → ℕ → Option Data
child_in (value x) at = None
child_in (branch cs) at = child_among cs at

abbrev pub as_leaf : Option Data → Option Leaf
as_leaf None = None
as_leaf (Some (value x)) = Some x
as_leaf (Some (branch cs)) = None

-- the leaf at a place
abbrev pub leaf_in : Data → ℕ → Option Leaf
leaf_in d at = as_leaf (child_in d at)

abbrev pub as_num : Option Leaf → Option ℕ
as_num (Some (Num n)) = Some n
as_num _ = None

abbrev pub as_amount : Option Leaf → Option ℕ
as_amount (Some (Amount n)) = Some n
as_amount _ = None

abbrev pub as_sum : Option Leaf → Option ℕ
as_sum (Some (Sum n)) = Some n
as_sum _ = None

abbrev pub as_ident : Option Leaf → Option (List ℕ)
as_ident (Some (Ident text)) = Some text
as_ident _ = None

abbrev pub as_account : Option Leaf → Option (List ℕ)
as_account (Some (Account text)) = Some text
as_account _ = None

abbrev pub as_code6 : Option Leaf → Option (List ℕ)
as_code6 (Some (Code6 text)) = Some text
as_code6 _ = None

abbrev pub as_date : Option Leaf → Option DateParts
as_date (Some (DateTime d)) = Some d
as_date _ = None

-- the place of a code in its list
abbrev pub as_code : Option Leaf → Option ℕ
as_code (Some (Code l at)) = Some at
as_code _ = None

abbrev pub num_in : Data → ℕ → Option ℕ
num_in d at = as_num (leaf_in d at)

abbrev pub amount_in : Data → ℕ → Option ℕ
amount_in d at = as_amount (leaf_in d at)

abbrev pub sum_in : Data → ℕ → Option ℕ
sum_in d at = as_sum (leaf_in d at)

abbrev pub ident_in : Data → ℕ → Option (List ℕ)
ident_in d at = as_ident (leaf_in d at)

abbrev pub account_in : Data → ℕ → Option (List ℕ)
account_in d at = as_account (leaf_in d at)

abbrev pub code6_in : Data → ℕ → Option (List ℕ)
code6_in d at = as_code6 (leaf_in d at)

abbrev pub date_in : Data → ℕ → Option DateParts
date_in d at = as_date (leaf_in d at)

abbrev pub code_in : Data → ℕ → Option ℕ
code_in d at = as_code (leaf_in d at)

-- what all children are read as, where each of them is read
abbrev pub all_among : {A : Type 0} → (Data → Option A) → Children → Option (List A)
all_among read none = Some []
all_among read (child at d rest) = option_and_then (λ x. option_and_then (λ xs. Some (x ∷ xs)) (all_among read rest)) (read d)
