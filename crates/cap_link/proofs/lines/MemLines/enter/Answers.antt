use Rattle.std.proofs.Common.{arith}
use Rattle.cap_link.specs.Pieces.{lists_of}
use Rattle.cap_link.proofs.Talking.{enters, lists-length}
use Rattle.cap_link.proofs.lines.MemLines.enter.Goals as goal

pub returns : goal.returns
returns c =
    let inside = c.self.inside in
    rw (← c.self.view_is)
    (enters (lists_of inside.connections.items) (lists_of inside.puts.items) inside.ended inside.is_open inside.at
    (rw (← c.self.view_is) at c.requires.left)
    (rw (← c.self.view_is) at c.requires.none)
    (omega (arith, c.self.invariant, lists-length inside.puts.items)))
