use Rattle.std.proofs.Common.{◌++◌, ◌∷◌, [], true, ap, sym, ◌∙◌}
use Rattle.cap_text.specs.Machine.{within}
use Rattle.cap_text.specs.Bytes.{barred}
use Rattle.cap_text.specs.SeenFrames.{frame_of, frames_of}
use Rattle.cap_text.specs.SeenRows.{found_of}
use Rattle.cap_text.specs.SeenDocs.{open_of, state_by}
use Rattle.cap_text.specs.SeenKnown.{known_of}
use Rattle.cap_text.proofs.Pieced.{ended_entered, ended_lost}
use Rattle.cap_text.proofs.ending.end_in_structure.Goals as goal

pub returns-in_ok-enter-in-Some-clause-read : goal.returns-in_ok-enter-in-Some-clause-read
returns-in_ok-enter-in-Some-clause-read c = λ fits.
    c.in_ok-enter-in-Some.ensures.read fits
    ∙ ended_entered c.args.stack.now.kind (frame_of c.args.stack.now.current) (frames_of c.args.stack.now.outer.items) (known_of c.args.known.now) c.args.front.now c.in-Some.child.node.now.tag.now
    (found_of c.args.stack.now.current.nodes.now c.in-Some.child) (sym c.closes.ensures ∙ c.if-closes.false) c.in-Some.ensures.row

pub returns-in-None-clause-read : goal.returns-in-None-clause-read
returns-in-None-clause-read c = λ fits.
    ap (λ l. barred (within c.args.stack.now.kind (state_by l (open_of c.args.stack.now))) (known_of c.args.known.now) (c.args.front.now ++ 62 ∷ []) true) c.requires
    ∙ ended_lost c.args.stack.now.kind (frame_of c.args.stack.now.current) (frames_of c.args.stack.now.outer.items) (known_of c.args.known.now) c.args.front.now
    (sym c.closes.ensures ∙ c.if-closes.false) c.in-None.ensures.row
