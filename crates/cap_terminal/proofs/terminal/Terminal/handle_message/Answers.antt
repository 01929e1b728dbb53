use Rattle.std.proofs.Common.{subst}
use Rattle.cap_msgs.specs.Received.{Read}
use Rattle.cap_terminal_answers.specs.Takes.{Taken, takes}
use Rattle.cap_terminal.specs.Handles.{Handles}
use Rattle.cap_terminal.proofs.Fine.{memory_handled}
use Rattle.cap_terminal.proofs.terminal.Terminal.handle_message.Goals as goal

pub returns-in-Ok-clause-handles : goal.returns-in-Ok-clause-handles
returns-in-Ok-clause-handles g c = subst (λ (t : Taken). Handles g.J.Journal c.args.self.now c.follow.new.self c.follow.result t) c.in-Ok.ensures.takes c.follow.ensures.handles

pub returns-in-Err-clause-handles : goal.returns-in-Err-clause-handles
returns-in-Err-clause-handles g c = memory_handled g.J.Journal g.met.J.Journal.only_now c.args.self.now (takes (g.J.Journal.entries c.args.self.now) (Read c.args.message.now))
