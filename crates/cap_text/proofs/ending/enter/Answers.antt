use Rattle.std.proofs.Common.{◌∙◌, ap, sym, ◌∷◌, refl}
use Rattle.cap_leaf.specs.Schema.{leaf}
use Rattle.cap_leaf.specs.View.{content_view}
use Rattle.cap_leaf.proofs.Views.{content_leaf, content_all, content_one_of}
use Rattle.cap_trees.specs.Tests.{bounded_in}
use Rattle.cap_text.specs.Machine.{in_leaf}
use Rattle.cap_text.specs.SeenFrames.{frame_of, frames_of}
use Rattle.cap_text.specs.SeenRows.{found_of}
use Rattle.cap_text.specs.SeenKnown.{known_of}
use Rattle.cap_text.proofs.Stepping.{on_ok}
use Rattle.cap_text.proofs.SoughtRow.{stands, stands_open, entered_is, entered_all, entered_one}
use Rattle.cap_text.proofs.ending.enter.Goals as goal

pub invariant_of-stack : goal.invariant_of-stack
invariant_of-stack c = record { good = ap bounded_in (sym (ap content_view c.in-Leaf.is ∙ content_leaf c.in-Leaf.kind)) ∙ c.requires.bounded }

pub returns-in-Leaf-clause-read : goal.returns-in-Leaf-clause-read
returns-in-Leaf-clause-read c = λ fits.
    stands c.args.stack.now.kind _ _ _ _ _ refl
    (ap (λ g. in_leaf c.args.found.node.now.tag.now c.in-Leaf.kind (g ∷ frames_of c.args.stack.now.outer.items)) c.enter.ensures)
    (c.open_a_leaf.ensures.known fits)
    ∙ sym (entered_is c.args.stack.now.kind (frame_of c.args.stack.now.current) (frames_of c.args.stack.now.outer.items) (known_of c.args.known.now) c.args.found.node.now.tag.now
    (found_of c.args.stack.now.current.nodes.now c.args.found) c.args.bytes (leaf c.in-Leaf.kind) (ap content_view c.in-Leaf.is ∙ content_leaf c.in-Leaf.kind))

pub returns-in-All-clause-read : goal.returns-in-All-clause-read
returns-in-All-clause-read c = λ fits.
    on_ok c.open_structure.result _ _
    (λ h. stands_open c.args.stack.now.kind c.open_structure.new.stack _ _ _ c.open_structure.ensures.kind (c.open_structure.ensures.leaf ∙ c.requires.leaf) h (c.open.ensures.known fits)
    ∙ entered_all c.args.stack.now.kind (frame_of c.enter.new.self) (frame_of c.args.stack.now.current) (frames_of c.args.stack.now.outer.items) (known_of c.args.known.now) c.args.found.node.now.tag.now
    (found_of c.args.stack.now.current.nodes.now c.args.found) c.args.bytes _ (ap content_view c.in-All.is ∙ content_all _) c.enter.ensures)
    c.open_structure.ensures.opened

pub returns-in-OneOf-clause-read : goal.returns-in-OneOf-clause-read
returns-in-OneOf-clause-read c = λ fits.
    on_ok c.open_structure-in-OneOf.result _ _
    (λ h. stands_open c.args.stack.now.kind c.open_structure-in-OneOf.new.stack _ _ _ c.open_structure-in-OneOf.ensures.kind (c.open_structure-in-OneOf.ensures.leaf ∙ c.requires.leaf) h (c.open-in-OneOf.ensures.known fits)
    ∙ entered_one c.args.stack.now.kind (frame_of c.enter.new.self) (frame_of c.args.stack.now.current) (frames_of c.args.stack.now.outer.items) (known_of c.args.known.now) c.args.found.node.now.tag.now
    (found_of c.args.stack.now.current.nodes.now c.args.found) c.args.bytes _ (ap content_view c.in-OneOf.is ∙ content_one_of _) c.enter.ensures)
    c.open_structure-in-OneOf.ensures.opened
