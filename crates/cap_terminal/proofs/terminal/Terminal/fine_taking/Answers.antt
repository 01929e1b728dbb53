use Rattle.cap_msgs.specs.Received.{Read}
use Rattle.cap_terminal.proofs.Fine.{fine_result}
use Rattle.cap_terminal.proofs.terminal.Terminal.fine_taking.Goals as goal

pub returns-clause-fine : goal.returns-clause-fine
returns-clause-fine g c = fine_result (g.J.Journal.entries c.args.self.now) (Read c.args.message.now) c.taking.result c.requires c.taking.ensures
