use Rattle.std.proofs.Common.{◌≡◌, ap, sym, ◌∙◌, ◌++◌, List, ℕ, Bool}
use Rattle.std.specs.Prelude.{not, if◌then◌else◌}
use Rattle.cap_link.specs.Pieces.{lists_of, piece}
use Rattle.cap_link.proofs.Talking.{piece_same, piece_other, piece_there, items_of}
use Rattle.cap_link.proofs.pieces.extend.Goals as goal

pub returns-then-is_err-clause-others : goal.returns-then-is_err-clause-others
returns-then-is_err-clause-others c = λ k lt. piece_other c.args.lists.now.items c.args.i k c.extend_from_slice.new.self lt

pub returns-then-is_err-clause-err : goal.returns-then-is_err-clause-err
returns-then-is_err-clause-err c =
    let before : items_of c.index_mut.result.now ≡ piece (lists_of c.args.lists.now.items) c.args.i
    = ap items_of c.index_mut.ensures.value ∙ sym (piece_there c.args.lists.now.items c.args.i _ c.requires) in
    let same : items_of c.extend_from_slice.new.self ≡ items_of c.index_mut.result.now
    = c.extend_from_slice.ensures.items
    ∙ ap (λ (b : Bool). if b then items_of c.index_mut.result.now ++ c.args.bytes.now else items_of c.index_mut.result.now) (c.is_err.ensures.negation ∙ ap not c.if-is_err.true) in
    piece_same c.args.lists.now.items c.args.i c.extend_from_slice.new.self c.requires ∙ (same ∙ before)

pub returns-clause-others : goal.returns-clause-others
returns-clause-others c = λ k lt. piece_other c.args.lists.now.items c.args.i k c.extend_from_slice.new.self lt

pub returns-clause-ok : goal.returns-clause-ok
returns-clause-ok c =
    let before : items_of c.index_mut.result.now ≡ piece (lists_of c.args.lists.now.items) c.args.i
    = ap items_of c.index_mut.ensures.value ∙ sym (piece_there c.args.lists.now.items c.args.i _ c.requires) in
    let more : items_of c.extend_from_slice.new.self ≡ items_of c.index_mut.result.now ++ c.args.bytes.now
    = c.extend_from_slice.ensures.items
    ∙ ap (λ (b : Bool). if b then items_of c.index_mut.result.now ++ c.args.bytes.now else items_of c.index_mut.result.now) (c.is_err.ensures.negation ∙ ap not c.if-is_err.false) in
    piece_same c.args.lists.now.items c.args.i c.extend_from_slice.new.self c.requires ∙ (more ∙ ap (λ (l : List ℕ). l ++ c.args.bytes.now) before)
