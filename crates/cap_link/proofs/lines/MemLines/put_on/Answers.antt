use Rattle.std.proofs.Common.{◌∙◌, ap, sym, arith, List, ℕ, Some, Option}
use Rattle.cap_link.specs.Pieces.{lists_of}
use Rattle.cap_link.proofs.Talking.{told_length, told_get, lists-length}
use Rattle.cap_link.proofs.lines.MemLines.put_on.Goals as goal

pub returns-then-i-count_of : goal.returns-then-i-count_of
returns-then-i-count_of c =
    let inside = c.self.inside in
    rw (← c.self.view_is)
    (told_get (lists_of inside.connections.items) (lists_of inside.puts.items) inside.ended inside.is_open inside.at c.args.i
    (omega (arith, c.self.invariant, lists-length inside.connections.items))
    (omega (arith, c.if-i-count_of.true, c.count_of.ensures))
    ∙ ap (λ (put : List ℕ). let s : Option (List ℕ) = Some put in s) (sym c.piece_at.ensures))

pub returns-else-i-count_of : goal.returns-else-i-count_of
returns-else-i-count_of c =
    let inside = c.self.inside in
    rw (← c.self.view_is)
    (omega (
      arith,
      c.if-i-count_of.false,
      c.count_of.ensures,
      c.self.invariant,
      lists-length inside.connections.items,
      told_length (lists_of inside.connections.items) (lists_of inside.puts.items) inside.ended inside.is_open inside.at
          (omega (arith, c.self.invariant, lists-length inside.connections.items)),
    ))
