use Rattle.std.proofs.Common.{◌∙◌, ap, sym, subst, ◌++◌}
use Rattle.std.proofs.lemmas.Option.{get_or_from_slice_get}
use Rattle.std.proofs.lemmas.Result.{on_ok_weaker}
use Rattle.cap_leaf.specs.declared.schema.Node.{Node}
use Rattle.cap_leaf.specs.Trees.{data_of}
use Rattle.cap_leaf.specs.View.{content_view, row_of}
use Rattle.cap_trees.specs.Fits.{Fits}
use Rattle.cap_text.specs.Pieces.{text_of}
use Rattle.cap_text.specs.Canon.{element}
use Rattle.cap_text.specs.Written.{AreSpelt}
use Rattle.cap_text.proofs.Canonicals.{root_of, whole_written, document_spelt, canonical_spells}
use Rattle.cap_text.proofs.write.put_document.Goals as goal

pub put_element-requires : goal.put_element-requires
put_element-requires c =
    let root = root_of c.schema_of.result.now c.args.kind (data_of c.args.tree.now) c.schema_of.ensures c.requires in
    let P : Node → Type 0 = λ n. Fits (content_view n.shape) (data_of c.args.tree.now) in
    subst P (sym (get_or_from_slice_get c.schema_of.result.now 0 root.node _ root.is)) root.fits

pub returns-clause-text : goal.returns-clause-text
returns-clause-text c =
    let root = root_of c.schema_of.result.now c.args.kind (data_of c.args.tree.now) c.schema_of.ensures c.requires in
    let same = get_or_from_slice_get c.schema_of.result.now 0 root.node _ root.is in
    on_ok_weaker c.put_closing.result
    (whole_written c.args.kind (data_of c.args.tree.now) root.node c.args.out.now.items _ _ _ root.row c.in_ok-put_document_opening.ensures
    (c.in_ok-put_element.ensures.text ∙ ap (λ (n : Node). c.put_document_opening.new.out.items ++ text_of (element (data_of c.args.tree.now) (row_of n))) same))
    c.put_closing.ensures

pub returns-clause-spells : goal.returns-clause-spells
returns-clause-spells c =
    let root = root_of c.schema_of.result.now c.args.kind (data_of c.args.tree.now) c.schema_of.ensures c.requires in
    let P : Node → Type 0 = λ n. AreSpelt (data_of c.args.tree.now) (row_of n) in
    let spelt = subst P (get_or_from_slice_get c.schema_of.result.now 0 root.node _ root.is) c.in_ok-put_element.ensures.spelt in
    on_ok_weaker c.put_closing.result
    (λ h. canonical_spells c.args.kind (data_of c.args.tree.now) c.requires (document_spelt c.args.kind (data_of c.args.tree.now) root.node root.row spelt))
    c.put_closing.ensures
