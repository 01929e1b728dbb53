-- Closing a structure in the code and in the machine.
use Rattle.std.proofs.Common.{ℕ, suc, ◌<◌, ◌≡◌, List, [], ◌∷◌, ◌++◌, true, map, reverse, refl, sym, ◌∙◌, ap, arith, length, nat_lt, rules}
use Rattle.std.proofs.lemmas.List.{map-append, reverse-append}
use Rattle.cap_leaf.specs.declared.tree.Child.{Child}
use Rattle.cap_leaf.specs.declared.tree.Tree.TheVariants as tree
use Rattle.cap_leaf.specs.declared.schema.Node.{Node}
use Rattle.cap_leaf.specs.Schema.{Content, leaf, all, one_of, table_in}
use Rattle.cap_leaf.specs.Trees.{Children, branch, none, child, data_of, children_view}
use Rattle.cap_leaf.specs.View.{table_view}
use Rattle.cap_trees.specs.Tests.{rows_in, bounded_test, bounded_in}
use Rattle.cap_text.specs.Machine.{Read, onto, close, inside}
use Rattle.cap_text.specs.declared.frames.Frame.{Frame}
use Rattle.cap_text.specs.SeenFrames.{read_of, frame_of, frames_of, with_child, branch_of}
use Rattle.cap_text.proofs.Common.{and_true}
use Rattle.cap_text.proofs.Seeing.{data_branch, children_cons, node_is}

onto_last : (rs : List Read) (r : Read) (cs : Children) → onto (rs ++ r ∷ []) cs ≡ child r.at r.tree (onto rs cs)
onto_last [] r cs = refl
onto_last (x ∷ rs) r cs = onto_last rs r (child x.at x.tree cs)

reverse_cons : {A : Type 0} (x : A) (xs : List A) → reverse (x ∷ xs) ≡ reverse xs ++ x ∷ []
reverse_cons x xs = reverse-append (x ∷ []) xs

reverse_last : {A : Type 0} (xs : List A) (x : A) → reverse (xs ++ x ∷ []) ≡ x ∷ reverse xs
reverse_last xs x = reverse-append xs (x ∷ [])

children_read : (cs : List Child) → onto (map read_of (reverse cs)) none ≡ children_view cs
children_read [] = refl
children_read (c ∷ cs) =
    ap (λ l. onto (map read_of l) none) (reverse_cons c cs)
    ∙ ap (λ l. onto l none) (map-append read_of (reverse cs) (c ∷ []))
    ∙ onto_last (map read_of (reverse cs)) (read_of c) none
    ∙ ap (child c.at (data_of c.tree)) (children_read cs)
    ∙ sym (children_cons c cs)

pub branch_read : (cs : List Child) → data_of (tree.Branch cs) ≡ branch (onto (map read_of (reverse cs)) none)
branch_read cs = data_branch cs ∙ ap branch (sym (children_read cs))

pub frames_last : (fs : List Frame) (f : Frame) → frames_of (fs ++ f ∷ []) ≡ frame_of f ∷ frames_of fs
frames_last fs f = ap (map frame_of) (reverse_last fs f)

-- the structure around one that is closed
pub popped : (outer new : List Frame) (around current : Frame) (done : List Child) → outer ≡ new ++ around ∷ [] → done ≡ current.done
    → inside (with_child (frame_of around) (data_of (tree.Branch done)) ∷ frames_of new) ≡ close (frames_of outer) (branch_of (frame_of current))
popped outer new around current done more same =
    ap (λ cs. inside (with_child (frame_of around) (data_of (tree.Branch cs)) ∷ frames_of new)) same
    ∙ (ap (λ k. inside (with_child (frame_of around) k ∷ frames_of new)) (branch_read current.done)
    ∙ (ap (λ fs. close fs (branch_of (frame_of current))) (sym (frames_last new around))
    ∙ ap (λ fs. close (frames_of fs) (branch_of (frame_of current))) (sym more)))

-- ---- the bounds of a table

rows_length : (ns : List Node) → rows_in (table_view ns) ≡ length ns
rows_length [] = refl
rows_length (n ∷ ns) = ap rows_in (node_is n (table_view ns)) ∙ ap suc (rows_length ns)

below : (n m : ℕ) → nat_lt n m ≡ true → n < m
below n m e = search rules

pub table_bounded : (ns : List Node) (c : Content) → table_view ns ≡ table_in c → bounded_in c ≡ true → (length ns < 256) × (bounded_test (table_view ns) ≡ true)
table_bounded ns (leaf k) e h =
    (let few : length ns ≡ 0 = sym (rows_length ns) ∙ ap rows_in e in omega arith, ap bounded_test e)
table_bounded ns (all t) e h =
    let both = and_true (nat_lt (rows_in t) 256) (bounded_test t) h in
    let few : rows_in t < 256 = below (rows_in t) 256 both.0 in
    (let same : length ns ≡ rows_in t = sym (rows_length ns) ∙ ap rows_in e in omega arith, ap bounded_test e ∙ both.1)
table_bounded ns (one_of t) e h =
    let both = and_true (nat_lt (rows_in t) 256) (bounded_test t) h in
    let few : rows_in t < 256 = below (rows_in t) 256 both.0 in
    (let same : length ns ≡ rows_in t = sym (rows_length ns) ∙ ap rows_in e in omega arith, ap bounded_test e ∙ both.1)
