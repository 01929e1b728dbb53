use Rattle.std.proofs.Common.{ap, ◌∙◌, take, drop}
use Rattle.cap_link.specs.Pieces.{lists_of}
use Rattle.cap_link.proofs.Talking.{takes}
use Rattle.cap_link.proofs.lines.MemLines.take.Goals as goal

pub returns-clause-bytes : goal.returns-clause-bytes
returns-clause-bytes c =
    let inside = c.self.inside in
    let count = c.copy_front-count.result in
    rw (← c.self.view_is)
    (takes (lists_of inside.connections.items) (lists_of inside.puts.items) inside.ended inside.is_open inside.at count _
    (rw (← c.self.view_is) at c.requires.open)
    (c.copy_front-count.ensures.front ∙ ap (take count) (c.split_at.ensures.back ∙ ap (drop inside.at) c.piece_at.ensures)))
