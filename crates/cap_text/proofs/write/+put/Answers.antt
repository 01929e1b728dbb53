use Rattle.std.proofs.Common.{rules, ◌++◌, ◌∙◌, ap}
use Rattle.std.proofs.lemmas.Result.{on_ok_weaker}
use Rattle.cap_leaf.specs.declared.tree.Tree.TheViews.{the_lemmas}
use Rattle.cap_text.proofs.Writing.{tree_leaf, tree_branch, leaf_written, tree_leaf_spelt, branch_written, branch_spelt, child_within, child_fits, child_written}
use Rattle.cap_text.proofs.write.+put.Goals as goal

pub put_element-put_leaf_element-requires : goal.put_element-put_leaf_element-requires
put_element-put_leaf_element-requires t c = (tree_leaf c.args.tree.now c.args.node.now _ c.in-Leaf.is c.requires).range

pub put_element-returns-in-Leaf-clause-text : goal.put_element-returns-in-Leaf-clause-text
put_element-returns-in-Leaf-clause-text t c =
    let e = leaf_written c.args.tree.now c.args.node.now _ c.in-Leaf.is in
    on_ok_weaker c.put_leaf_element.result (λ h. h ∙ ap (λ w. c.args.out.now.items ++ w) e) c.put_leaf_element.ensures.text

pub put_element-returns-in-Leaf-clause-spelt : goal.put_element-returns-in-Leaf-clause-spelt
put_element-returns-in-Leaf-clause-spelt t c =
    on_ok_weaker c.put_leaf_element.result (tree_leaf_spelt c.args.tree.now c.args.node.now _ c.in-Leaf.is c.requires) c.put_leaf_element.ensures.reads

pub put_element-put_structure-requires : goal.put_element-put_structure-requires
put_element-put_structure-requires t c =
    (search (rules, the_lemmas), tree_branch c.args.tree.now c.args.node.now _ _ _ c.in-Branch.is c.as_slice.ensures c.table.ensures c.requires)

pub put_element-returns-in-Branch-clause-text : goal.put_element-returns-in-Branch-clause-text
put_element-returns-in-Branch-clause-text t c =
    let e = branch_written c.args.tree.now c.args.node.now c.in-Branch.children c.as_slice.result.now c.table.result.now c.in-Branch.is c.as_slice.ensures c.table.ensures in
    on_ok_weaker c.put_structure.result (λ h. h ∙ ap (λ w. c.args.out.now.items ++ w) e) c.put_structure.ensures.text

pub put_element-returns-in-Branch-clause-spelt : goal.put_element-returns-in-Branch-clause-spelt
put_element-returns-in-Branch-clause-spelt t c =
    on_ok_weaker c.put_structure.result
    (branch_spelt c.args.tree.now c.args.node.now c.in-Branch.children c.as_slice.result.now c.table.result.now c.in-Branch.is c.as_slice.ensures c.table.ensures)
    c.put_structure.ensures.spelt

pub put_children-bounds-nodes-child : goal.put_children-bounds-nodes-child
put_children-bounds-nodes-child t c =
    child_within c.args.children.now c.args.children.now c.args.nodes.now c.loop-child.child-index c.child-item.result _ _ c.loop-child-test.true c.child-item.is c.loop-child.invariant

pub put_children-put_element-requires : goal.put_children-put_element-requires
put_children-put_element-requires t c = (
  search (rules, the_lemmas),
  child_fits c.args.children.now c.args.children.now c.args.nodes.now c.loop-child.child-index c.child-item.result _ _ _ c.loop-child-test.true c.child-item.is c.loop-child.invariant,
)

pub put_children-loop-child-preserved : goal.put_children-loop-child-preserved
put_children-loop-child-preserved t c =
    child_written c.args.children.now c.args.children.now c.args.nodes.now c.loop-child.child-index c.child-item.result _ _ _ _ c.loop-child-test.true c.child-item.is c.loop-child.invariant
    c.in_ok-put_element.ensures.text c.in_ok-put_element.ensures.spelt
