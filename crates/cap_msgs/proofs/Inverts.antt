-- What fits a table, row by row.
use Rattle.std.proofs.Common.{ℕ, zero, suc, ◌+◌, ◌<◌, ◌≤◌, ◌≡◌, ◌⊎◌, inl, inr, Bool, true, false, List, [], ◌∷◌, length, refl, sym, ap, ◌∙◌, arith, subst}
use Rattle.std.specs.Prelude.{⊤, map, ◌&&◌}
use Rattle.std.specs.List.{list_all}
use Rattle.cap_leaf.specs.Schema.{Content, Table, leaf, all, one_of, end, row}
use Rattle.cap_leaf.specs.Trees.{Data, Children, value, branch, none, child}
use Rattle.cap_trees.specs.Fits.{Fits, FitsRows, FitsRow, a_leaf, in_order, a_choice, no_row, one_more, next_row, this_row, other_row}
use Rattle.cap_fields.specs.Fields.{repeated}

pub and_join : (a b : Bool) → a ≡ true → b ≡ true → (a && b) ≡ true
and_join a b p q = ap (λ x. x && b) p ∙ q

-- ---- a table's rows

-- children whose first one fits the first row
pub record Once (c : Content) (rest : Table) (at : ℕ) (cs : Children) : Type 0 where
  pub first : Data
  pub more : Children
  pub is : cs ≡ child at first more
  pub fits : Fits c first
  pub left : FitsRows rest (suc at) 0 more

past : {tag : List ℕ} {least most n at : ℕ} {c : Content} {rest : Table} {cs : Children} → most ≤ n → FitsRows (row tag least most c rest) at n cs → FitsRows rest (suc at) 0 cs
past h (one_more lt f r) = absurd (let e : ⊥ = omega arith in e)
past h (next_row le r) = r

pub once_in : {tag : List ℕ} {least most n at : ℕ} {c : Content} {rest : Table} {cs : Children}
    → n < least → most ≤ n + 1 → FitsRows (row tag least most c rest) at n cs → Once c rest at cs
once_in few much (one_more {d = d} {cs = cs} lt f r) = record { first = d; more = cs; is = refl; fits = f; left = past (omega arith) r }
once_in few much (next_row le r) = absurd (let e : ⊥ = omega arith in e)

pub maybe_in : {tag : List ℕ} {least most n at : ℕ} {c : Content} {rest : Table} {cs : Children}
    → most ≤ n + 1 → FitsRows (row tag least most c rest) at n cs → Once c rest at cs ⊎ FitsRows rest (suc at) 0 cs
maybe_in much (one_more {d = d} {cs = cs} lt f r) = inl record { first = d; more = cs; is = refl; fits = f; left = past (omega arith) r }
maybe_in much (next_row le r) = inr r

pub ends : {at n : ℕ} {cs : Children} → FitsRows end at n cs → cs ≡ none
ends no_row = refl

-- a first child and the rest of the children, as they are
pub chain : {at : ℕ} {d t : Data} {cs more rest : Children} → cs ≡ child at d more → d ≡ t → more ≡ rest → cs ≡ child at t rest
chain {at} {d} {t} {cs} {more} {rest} e f g = e ∙ ap (λ x. child at x more) f ∙ ap (child at t) g

pub put : {tag : List ℕ} {at : ℕ} {c : Content} {rest : Table} {d : Data} {cs : Children} → Fits c d → FitsRows rest (suc at) 0 cs → FitsRows (row tag 1 1 c rest) at 0 (child at d cs)
put f r = one_more (omega arith) f (next_row (omega arith) r)

pub put_maybe : {tag : List ℕ} {at : ℕ} {c : Content} {rest : Table} {d : Data} {cs : Children} → Fits c d → FitsRows rest (suc at) 0 cs → FitsRows (row tag 0 1 c rest) at 0 (child at d cs)
put_maybe f r = one_more (omega arith) f (next_row (omega arith) r)

pub skip : {tag : List ℕ} {at : ℕ} {c : Content} {rest : Table} {cs : Children} → FitsRows rest (suc at) 0 cs → FitsRows (row tag 0 1 c rest) at 0 cs
skip r = next_row (omega arith) r

-- ---- a row that stands several times, the last of its table

abbrev pub AllFit : Content → List Data → Type 0
AllFit c [] = ⊤
AllFit c (d ∷ ds) = Fits c d × AllFit c ds

pub record Many (c : Content) (at n least most : ℕ) (cs : Children) : Type 0 where
  pub trees : List Data
  pub is : cs ≡ repeated at trees
  pub fits : AllFit c trees
  pub some : least ≤ n + length trees
  pub few : n + length trees ≤ most

pub many_in : {tag : List ℕ} {least most n at : ℕ} {c : Content} {cs : Children} → n ≤ most → FitsRows (row tag least most c end) at n cs → Many c at n least most cs
many_in h (one_more {at = at} {d = d} lt f r) =
    let m = many_in (omega arith) r in
    record { trees = d ∷ m.trees; is = ap (child at d) m.is; fits = (f, m.fits); some = omega (arith, m.some); few = omega (arith, m.few) }
many_in h (next_row le r) = record { trees = []; is = ends r; fits = tt; some = omega arith; few = omega arith }

pub put_many : {tag : List ℕ} {least most n at : ℕ} {c : Content} (ds : List Data) → AllFit c ds → least ≤ n + length ds → n + length ds ≤ most
    → FitsRows (row tag least most c end) at n (repeated at ds)
put_many [] f some few = next_row (omega arith) no_row
put_many (d ∷ ds) f some few = one_more (omega arith) f.0 (put_many ds f.1 (omega arith) (omega arith))

-- ---- trees of values

-- the tree is that of a value that passes a test
pub record IsTree {A : Type 0} (tree : A → Data) (test : A → Bool) (d : Data) : Type 0 where
  pub item : A
  pub is : d ≡ tree item
  pub pass : test item ≡ true

pub record AreTrees {A : Type 0} (tree : A → Data) (test : A → Bool) (ds : List Data) : Type 0 where
  pub items : List A
  pub are : ds ≡ map tree items
  pub pass : list_all test items ≡ true
  pub many : length items ≡ length ds

pub all_trees : {A : Type 0} (tree : A → Data) (test : A → Bool) (c : Content) → ((d : Data) → Fits c d → IsTree tree test d) → (ds : List Data) → AllFit c ds → AreTrees tree test ds
all_trees tree test c each [] f = record { items = []; are = refl; pass = refl; many = refl }
all_trees tree test c each (d ∷ ds) f =
    let x = each d f.0 in
    let xs = all_trees tree test c each ds f.1 in
    record {
      items = x.item ∷ xs.items;
      are = ap (λ y. y ∷ ds) x.is ∙ ap (λ ys. tree x.item ∷ ys) xs.are;
      pass = and_join (test x.item) (list_all test xs.items) x.pass xs.pass;
      many = ap suc xs.many;
    }

and_first : (a b : Bool) → (a && b) ≡ true → a ≡ true
and_first true b e = refl
and_first false b e = cc

and_second : (a b : Bool) → (a && b) ≡ true → b ≡ true
and_second true b e = e
and_second false b e = cc

pub both : (a b : Bool) → (a && b) ≡ true → (a ≡ true) × (b ≡ true)
both a b e = (and_first a b e, and_second a b e)

pub all_fit : {A : Type 0} (tree : A → Data) (test : A → Bool) (c : Content) → ((x : A) → test x ≡ true → Fits c (tree x)) → (xs : List A) → list_all test xs ≡ true → AllFit c (map tree xs)
all_fit tree test c each [] e = tt
all_fit tree test c each (x ∷ xs) e = let p = both (test x) (list_all test xs) e in (each x p.0, all_fit tree test c each xs p.1)

pub map_length : {A : Type 0} (tree : A → Data) (xs : List A) → length (map tree xs) ≡ length xs
map_length tree [] = refl
map_length tree (x ∷ xs) = ap suc (map_length tree xs)
