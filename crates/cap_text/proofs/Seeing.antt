-- The views of trees and rows, constructor by constructor.
use Rattle.std.proofs.Common.{◌≡◌, ℕ, zero, suc, List, [], ◌∷◌, refl, sym, ◌∙◌, ap}
use Rattle.std.specs.Prelude.{slice_get, option_map, ◌++◌}
use Rattle.cap_leaf.specs.declared.leaf.Leaf.{Leaf}
use Rattle.cap_leaf.specs.declared.tree.Child.{Child}
use Rattle.cap_leaf.specs.declared.tree.Tree.TheVariants as tree
use Rattle.cap_leaf.specs.declared.tree.Tree.TheOpen.{Tree-F}
use Rattle.cap_leaf.specs.declared.tree.Tree.TheFolds.{fold-roll-Tree, fold-roll-Child}
use Rattle.cap_leaf.specs.declared.schema.Node.{Node}
use Rattle.cap_leaf.specs.Schema.{Table, row}
use Rattle.cap_leaf.specs.Trees.{Children, value, branch, child, data_of, child_of, children_view, tree_step, child_step}
use Rattle.cap_leaf.specs.View.{node_view, table_view, content_view, row_of}
use Rattle.cap_leaf.proofs.Views.{node_row}
use Rattle.cap_text.specs.Canon.{row_at, by_row, element, children}

pub data_leaf : (x : Leaf) → data_of (tree.Leaf x) ≡ value x
unfolding data_of
data_leaf x = ap data_of (sym (tree.rolls-Leaf x)) ∙ fold-roll-Tree _ _ tree_step child_step (Tree-F.Leaf x)

pub data_branch : (cs : List Child) → data_of (tree.Branch cs) ≡ branch (children_view cs)
unfolding data_of child_of
data_branch cs = ap data_of (sym (tree.rolls-Branch cs)) ∙ fold-roll-Tree _ _ tree_step child_step (Tree-F.Branch cs)

pub child_row : (c : Child) (rest : Children) → child_of c rest ≡ child c.at (data_of c.tree) rest
unfolding data_of child_of
child_row c rest = ap (λ f. f rest) (fold-roll-Child _ _ tree_step child_step record { at = c.at; tree = c.tree })

pub node_is : (n : Node) (rest : Table) → node_view n rest ≡ row n.tag.now n.least n.most (content_view n.shape) rest
node_is n rest = node_row record { tag = n.tag; least = n.least; most = n.most; shape = n.shape } rest

pub row_lookup : (ns : List Node) (at : ℕ) → row_at (table_view ns) at ≡ option_map row_of (slice_get ns at)
row_lookup [] at = refl
row_lookup (n ∷ ns) zero = ap (λ t. row_at t zero) (node_is n (table_view ns))
row_lookup (n ∷ ns) (suc k) = ap (λ t. row_at t (suc k)) (node_is n (table_view ns)) ∙ row_lookup ns k

-- the first child of a list, seen as data
pub children_cons : (c : Child) (cs : List Child) → children_view (c ∷ cs) ≡ child c.at (data_of c.tree) (children_view cs)
children_cons c cs = child_row c (children_view cs)

pub pieces_cons : (c : Child) (cs : List Child) (t : Table)
    → children (children_view (c ∷ cs)) t ≡ by_row (row_at t c.at) (element (data_of c.tree)) ++ children (children_view cs) t
pieces_cons c cs t = ap (λ d. children d t) (children_cons c cs)
