use Rattle.std.proofs.Common.{ap, ◌∙◌, List, ℕ, ◌+◌, false, arith}
use Rattle.cap_link.specs.Pieces.{lists_of, told_of}
use Rattle.cap_link.proofs.Talking.{leaves, lists-length}
use Rattle.cap_link.proofs.lines.MemLines.leave.Goals as goal

pub returns : goal.returns
returns c =
    let inside = c.self.inside in
    rw (← c.self.view_is)
    (ap (λ (all : List (List ℕ)). told_of all (lists_of inside.puts.items) (inside.ended + 1) false 0) c.cut_at.ensures
    ∙ leaves (lists_of inside.connections.items) (lists_of inside.puts.items) inside.ended inside.is_open inside.at
    (rw (← c.self.view_is) at c.requires)
    (omega (arith, c.self.invariant, lists-length inside.connections.items)))
