use Rattle.std.proofs.Common.{arith}
use Rattle.std.proofs.lemmas.Result.{on_ok_weaker, on_err_weaker}
use Rattle.cap_link.specs.Pieces.{lists_of}
use Rattle.cap_link.proofs.Talking.{puts_more, puts_none, lists-length}
use Rattle.cap_link.proofs.lines.MemLines.put.Goals as goal

pub returns-clause-ok : goal.returns-clause-ok
returns-clause-ok c =
    let inside = c.self.inside in
    rw (← c.self.view_is)
    (on_ok_weaker c.put_at.result
    (λ there. puts_more (lists_of inside.connections.items) (lists_of inside.puts.items) (lists_of c.put_at.new.lists.items) inside.ended inside.is_open inside.at c.args.bytes.now
    (rw (← c.self.view_is) at c.requires)
    (omega (arith, c.self.invariant, lists-length inside.connections.items))
    c.put_at.ensures.others
    there)
    c.put_at.ensures.ok)

pub returns-clause-err : goal.returns-clause-err
returns-clause-err c =
    let inside = c.self.inside in
    rw (← c.self.view_is)
    (on_err_weaker c.put_at.result
    (λ same. puts_none (lists_of inside.connections.items) (lists_of inside.puts.items) (lists_of c.put_at.new.lists.items) inside.ended inside.is_open inside.at
    (omega (arith, c.self.invariant, lists-length inside.connections.items))
    c.put_at.ensures.others
    same)
    c.put_at.ensures.err)
