use Rattle.cap_text.specs.SeenFrames.{left_of}
use Rattle.cap_text.proofs.SoughtRow.{sought_row}
use Rattle.cap_text.proofs.ending.found.Goals as goal

pub returns-in-Some-clause-row : goal.returns-in-Some-clause-row
returns-in-Some-clause-row c =
    sought_row c.look.result (left_of c.args.frame.now.nodes.now c.args.frame.now.left) c.args.front.now c.in-Some.name.now c.args.frame.now.nodes.now c.in-Some.ensures
    c.look.ensures.row c.look.ensures.tag
