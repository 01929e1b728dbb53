-- Children one after the other.
use Rattle.std.proofs.Common.{◌≡◌, ℕ, Option, Some, None, List, [], ◌∷◌, ◌++◌, refl, sym, ap, ◌∙◌, subst, length, drop, ◌<◌, ◌≤◌, ◌+◌, get_or, append_assoc, append-nil}
use Rattle.std.specs.Prelude.{map, option_and_then, IsSome}
use Rattle.std.proofs.lemmas.List.{drop_more, drop_all}
use Rattle.cap_leaf.specs.declared.tree.Child.{Child}
use Rattle.cap_leaf.specs.Trees.{Data, Children, none, child, children_view, data_of}
use Rattle.cap_fields.specs.Fields.{followed_by, repeated, all_among}
use Rattle.cap_fields.proofs.Views.{children_cons, followed_none}

pub followed_assoc : (a b c : Children) → followed_by (followed_by a b) c ≡ followed_by a (followed_by b c)
followed_assoc none b c = refl
followed_assoc (child at d rest) b c = ap (child at d) (followed_assoc rest b c)

-- one more of the trees of a list is put
pub put_one : {A : Type 0} (tree : A → Data) (at : ℕ) (xs : List A) (i : ℕ) (x : A) (cs new whole : Children) → i < length xs → x ≡ get_or xs i x
    → followed_by cs (repeated at (map tree (drop i xs))) ≡ whole → new ≡ followed_by cs (child at (tree x) none)
    → followed_by new (repeated at (map tree (drop (i + 1) xs))) ≡ whole
put_one tree at xs i x cs new whole lt is had put =
    ap (λ n. followed_by n (repeated at (map tree (drop (i + 1) xs)))) put
    ∙ followed_assoc cs (child at (tree x) none) (repeated at (map tree (drop (i + 1) xs)))
    ∙ ap (λ y. followed_by cs (repeated at (map tree (y ∷ drop (i + 1) xs)))) is
    ∙ ap (λ l. followed_by cs (repeated at (map tree l))) (sym (drop_more xs i x lt)) ∙ had

-- all of them are put
pub put_all : {A : Type 0} (tree : A → Data) (at : ℕ) (xs : List A) (i : ℕ) (cs whole : Children) → length xs ≤ i
    → followed_by cs (repeated at (map tree (drop i xs))) ≡ whole → cs ≡ whole
put_all tree at xs i cs whole le had = sym (followed_none cs) ∙ ap (λ l. followed_by cs (repeated at (map tree l))) (sym (drop_all i xs le)) ∙ had

-- ---- children read one by one

pub some_same : {A : Type 0} (x y : A) → Some x ≡ Some y → x ≡ y
some_same x y e = cc

-- what was written of a list is read back
pub all_back : {A : Type 0} (tree : A → Data) (read : Data → Option A) → ((x : A) → read (tree x) ≡ Some x) → (at : ℕ) (xs : List A)
    → all_among read (repeated at (map tree xs)) ≡ Some xs
all_back tree read back at [] = refl
all_back tree read back at (x ∷ xs) =
    ap (λ o. option_and_then (λ y. option_and_then (λ ys. Some (y ∷ ys)) (all_among read (repeated at (map tree xs)))) o) (back x)
    ∙ ap (option_and_then (λ ys. Some (x ∷ ys))) (all_back tree read back at xs)

-- the children from the i-th on are read as a rest of a list, of which the front is found
pub record ReadFrom {A : Type 0} (read : Data → Option A) (cs : List Child) (i : ℕ) (found : List A) : Type 0 where
  pub rest : List A
  pub left : all_among read (children_view (drop i cs)) ≡ Some rest
  pub whole : all_among read (children_view cs) ≡ Some (found ++ rest)

some_given : {A : Type 0} (o : Option A) → IsSome o → (x : A) × (o ≡ Some x)
some_given None h = cc
some_given (Some x) h = (x, refl)

pub read_start : {A : Type 0} (read : Data → Option A) (cs : List Child) → IsSome (all_among read (children_view cs)) → ReadFrom read cs 0 []
read_start read cs h = let g = some_given (all_among read (children_view cs)) h in record { rest = g.0; left = g.1; whole = g.1 }

here : (cs : List Child) (i : ℕ) (c : Child) → i < length cs → c ≡ get_or cs i c → drop i cs ≡ c ∷ drop (i + 1) cs
here cs i c lt is = drop_more cs i c lt ∙ ap (λ y. y ∷ drop (i + 1) cs) (sym is)

-- a list of which the first is read
pub record First {A : Type 0} (o : Option A) (p : Option (List A)) (rest : List A) : Type 0 where
  pub item : A
  pub items : List A
  pub one : o ≡ Some item
  pub more : p ≡ Some items
  pub is : rest ≡ item ∷ items

first_by : {A : Type 0} (o : Option A) (p : Option (List A)) (rest : List A)
    → option_and_then (λ x. option_and_then (λ xs. Some (x ∷ xs)) p) o ≡ Some rest → First o p rest
first_by None p rest e = cc
first_by (Some x) None rest e = cc
first_by (Some x) (Some xs) rest e = record { item = x; items = xs; one = refl; more = refl; is = some_same rest (x ∷ xs) (sym e) }

pub read_first : {A : Type 0} (read : Data → Option A) (cs : List Child) (i : ℕ) (c : Child) (found : List A) → i < length cs → c ≡ get_or cs i c
    → (r : ReadFrom read cs i found) → First (read (data_of c.tree)) (all_among read (children_view (drop (i + 1) cs))) r.rest
read_first read cs i c found lt is r =
    first_by (read (data_of c.tree)) (all_among read (children_view (drop (i + 1) cs))) r.rest
    (sym (ap (λ l. all_among read (children_view l)) (here cs i c lt is) ∙ ap (all_among read) (children_cons c (drop (i + 1) cs))) ∙ r.left)

-- the next child is read
pub next_is_some : {A : Type 0} (read : Data → Option A) (cs : List Child) (i : ℕ) (c : Child) (found : List A) (o : Option A) → i < length cs → c ≡ get_or cs i c
    → ReadFrom read cs i found → o ≡ read (data_of c.tree) → IsSome o
next_is_some {A} read cs i c found o lt is r e =
    let P : Option A → Type 0 = λ x. IsSome x in subst P (sym (e ∙ (read_first read cs i c found lt is r).one)) refl

pub read_on : {A : Type 0} (read : Data → Option A) (cs : List Child) (i : ℕ) (c : Child) (found new : List A) (x : A) → i < length cs → c ≡ get_or cs i c
    → ReadFrom read cs i found → Some x ≡ read (data_of c.tree) → new ≡ found ++ x ∷ [] → ReadFrom read cs (i + 1) new
read_on read cs i c found new x lt is r e put =
    let f = read_first read cs i c found lt is r in
    record {
      rest = f.items;
      left = f.more;
      whole = r.whole ∙ ap (λ l. Some (found ++ l)) (f.is ∙ ap (λ y. y ∷ f.items) (sym (some_same x f.item (e ∙ f.one))))
          ∙ ap (λ l. Some l) (sym (append_assoc found (x ∷ []) f.items) ∙ ap (λ l. l ++ f.items) (sym put));
    }

pub read_all : {A : Type 0} (read : Data → Option A) (cs : List Child) (i : ℕ) (found : List A) → length cs ≤ i → ReadFrom read cs i found
    → all_among read (children_view cs) ≡ Some found
read_all read cs i found le r =
    r.whole
    ∙ ap (λ l. Some (found ++ l)) (some_same r.rest [] (sym r.left ∙ ap (λ l. all_among read (children_view l)) (drop_all i cs le)))
    ∙ ap (λ l. Some l) (append-nil found)
