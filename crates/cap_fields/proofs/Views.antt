-- Children in a list and as data.
use Rattle.std.proofs.Common.{ℕ, suc, ◌+◌, ◌<◌, ◌≡◌, List, [], ◌∷◌, ◌++◌, false, Some, refl, sym, ◌∙◌, ap, arith, cond, length, drop, get_or, append_assoc, append-nil, eq-eqb, rules, ◌≤◌}
use Rattle.std.specs.Prelude.{◌==◌}
use Rattle.std.proofs.lemmas.List.{drop_more, drop_all}
use Rattle.cap_leaf.specs.declared.leaf.Leaf.{Leaf}
use Rattle.cap_leaf.specs.declared.tree.Child.{Child}
use Rattle.cap_leaf.specs.declared.tree.Tree.TheVariants as tree
use Rattle.cap_leaf.specs.declared.tree.Tree.TheOpen.{Tree-F}
use Rattle.cap_leaf.specs.declared.tree.Tree.TheFolds.{fold-roll-Tree, fold-roll-Child}
use Rattle.cap_leaf.specs.Trees.{Children, value, branch, none, child, data_of, child_of, children_view, tree_step, child_step}
use Rattle.cap_fields.specs.Fields.{numbered, followed_by, child_among}

pub data_leaf : (x : Leaf) → data_of (tree.Leaf x) ≡ value x
unfolding data_of
data_leaf x = ap data_of (sym (tree.rolls-Leaf x)) ∙ fold-roll-Tree _ _ tree_step child_step (Tree-F.Leaf x)

pub data_branch : (cs : List Child) → data_of (tree.Branch cs) ≡ branch (children_view cs)
unfolding data_of child_of
data_branch cs = ap data_of (sym (tree.rolls-Branch cs)) ∙ fold-roll-Tree _ _ tree_step child_step (Tree-F.Branch cs)

pub child_row : (c : Child) (rest : Children) → child_of c rest ≡ child c.at (data_of c.tree) rest
unfolding data_of child_of
child_row c rest = ap (λ f. f rest) (fold-roll-Child _ _ tree_step child_step record { at = c.at; tree = c.tree })

pub children_cons : (c : Child) (cs : List Child) → children_view (c ∷ cs) ≡ child c.at (data_of c.tree) (children_view cs)
children_cons c cs = child_row c (children_view cs)

-- one more at the end
pub children_push : (cs : List Child) (c : Child) → children_view (cs ++ c ∷ []) ≡ followed_by (children_view cs) (child c.at (data_of c.tree) none)
children_push [] c = children_cons c []
children_push (x ∷ cs) c =
    children_cons x (cs ++ c ∷ []) ∙ ap (child x.at (data_of x.tree)) (children_push cs c)
    ∙ ap (λ d. followed_by d (child c.at (data_of c.tree) none)) (sym (children_cons x cs))

-- ---- leaves

abbrev pub leaf_child : ℕ → Leaf → Child
leaf_child at x = record { at = at; tree = tree.Leaf x }

abbrev pub leaf_children : ℕ → List Leaf → List Child
leaf_children at [] = []
leaf_children at (x ∷ xs) = leaf_child at x ∷ leaf_children (suc at) xs

pub numbered_view : (at : ℕ) (xs : List Leaf) → children_view (leaf_children at xs) ≡ numbered at xs
numbered_view at [] = refl
numbered_view at (x ∷ xs) =
    children_cons (leaf_child at x) (leaf_children (suc at) xs)
    ∙ ap (λ d. child at d (children_view (leaf_children (suc at) xs))) (data_leaf x)
    ∙ ap (child at (value x)) (numbered_view (suc at) xs)

-- one leaf on
pub one_on : (xs : List Leaf) (i : ℕ) (x : Leaf) (cs whole : List Child) → i < length xs → cs ++ leaf_children i (drop i xs) ≡ whole
    → (cs ++ leaf_child i (get_or xs i x) ∷ []) ++ leaf_children (i + 1) (drop (i + 1) xs) ≡ whole
one_on xs i x cs whole lt had =
    append_assoc cs (leaf_child i (get_or xs i x) ∷ []) (leaf_children (i + 1) (drop (i + 1) xs))
    ∙ ap (λ k. cs ++ (leaf_child i (get_or xs i x) ∷ leaf_children k (drop (i + 1) xs))) (let e : i + 1 ≡ suc i = omega arith in e)
    ∙ ap (λ l. cs ++ leaf_children i l) (sym (drop_more xs i x lt)) ∙ had

pub all_put : (xs : List Leaf) (cs : List Child) (i : ℕ) → length xs ≤ i → cs ++ leaf_children i (drop i xs) ≡ leaf_children 0 xs → children_view cs ≡ numbered 0 xs
all_put xs cs i le had =
    ap children_view (sym (append-nil cs) ∙ ap (λ l. cs ++ leaf_children i l) (sym (drop_all i xs le)) ∙ had) ∙ numbered_view 0 xs

-- ---- a child at a place

pub among_cons : (c : Child) (cs : List Child) (at : ℕ) → child_among (children_view (c ∷ cs)) at ≡ cond (c.at == at) (Some (data_of c.tree)) (child_among (children_view cs) at)
among_cons c cs at = ap (λ k. child_among k at) (children_cons c cs)

here : (cs : List Child) (i : ℕ) (c : Child) → i < length cs → c ≡ get_or cs i c → drop i cs ≡ c ∷ drop (i + 1) cs
here cs i c lt is = drop_more cs i c lt ∙ ap (λ y. y ∷ drop (i + 1) cs) (sym is)

pub among_found : (cs : List Child) (i : ℕ) (c : Child) (at : ℕ) → i < length cs → c ≡ get_or cs i c → c.at ≡ at
    → child_among (children_view (drop i cs)) at ≡ Some (data_of c.tree)
among_found cs i c at lt is same =
    ap (λ l. child_among (children_view l) at) (here cs i c lt is) ∙ among_cons c (drop (i + 1) cs) at
    ∙ ap (λ b. cond b (Some (data_of c.tree)) (child_among (children_view (drop (i + 1) cs)) at)) (eq-eqb c.at at same)

pub among_on : (cs : List Child) (i : ℕ) (c : Child) (at : ℕ) → i < length cs → c ≡ get_or cs i c → (c.at ≡ at → ⊥)
    → child_among (children_view (drop i cs)) at ≡ child_among (children_view (drop (i + 1) cs)) at
among_on cs i c at lt is other =
    ap (λ l. child_among (children_view l) at) (here cs i c lt is) ∙ among_cons c (drop (i + 1) cs) at
    ∙ ap (λ b. cond b (Some (data_of c.tree)) (child_among (children_view (drop (i + 1) cs)) at)) (let e : (c.at == at) ≡ false = search (rules) in e)

pub followed_none : (cs : Children) → followed_by cs none ≡ cs
followed_none none = refl
followed_none (child at d rest) = ap (child at d) (followed_none rest)
