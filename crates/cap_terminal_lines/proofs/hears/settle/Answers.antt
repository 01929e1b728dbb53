use Rattle.std.proofs.Common.{Bool, sym, subst}
use Rattle.cap_plays.specs.Turns.{on_approval}
use Rattle.cap_terminal_lines.specs.Acts.{AddDone}
use Rattle.cap_terminal_lines.proofs.hears.settle.Goals as goal

pub returns-then-walks_out-clause-done : goal.returns-then-walks_out-clause-done
returns-then-walks_out-clause-done g c =
    let J = g.J.Journal in
    subst (λ (b : Bool). AddDone J c.args.terminal.now c.give_up.new.terminal (on_approval b c.args.approved.n c.args.approved.code).added (on_approval b c.args.approved.n c.args.approved.code).outcome c.give_up.result) (sym c.if-walks_out.true) c.give_up.ensures.done

pub returns-else-walks_out-clause-done : goal.returns-else-walks_out-clause-done
returns-else-walks_out-clause-done g c =
    let J = g.J.Journal in
    subst (λ (b : Bool). AddDone J c.args.terminal.now c.complete.new.terminal (on_approval b c.args.approved.n c.args.approved.code).added (on_approval b c.args.approved.n c.args.approved.code).outcome c.complete.result) (sym c.if-walks_out.false) c.complete.ensures.done
