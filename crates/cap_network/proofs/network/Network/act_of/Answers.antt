use Rattle.std.specs.Prelude.{IfOk}
use Rattle.cap_plays.specs.Session.{ActsSo}
use Rattle.cap_schedule.specs.declared.schedule.Line.{Line}
use Rattle.cap_network.specs.contracts.network.NetworkNetwork.TheImpl.{ghosts as net}
use Rattle.cap_network.proofs.Doing.{by_action}
use Rattle.cap_network.proofs.network.Network.act_of.Goals as goal

pub returns-in-AtTerminal : goal.returns-in-AtTerminal
returns-in-AtTerminal c = by_action (λ (l : Line). IfOk c.act_at_terminal.result (λ outcome. ActsSo (net.corresponds c.args.self.now) (net.corresponds c.act_at_terminal.new.self) l outcome)) c.args.line.now _ c.in-AtTerminal.is c.act_at_terminal.ensures

pub returns-in-AtHost : goal.returns-in-AtHost
returns-in-AtHost c = by_action (λ (l : Line). IfOk c.act_at_host.result (λ outcome. ActsSo (net.corresponds c.args.self.now) (net.corresponds c.act_at_host.new.self) l outcome)) c.args.line.now _ c.in-AtHost.is c.act_at_host.ensures

pub returns-in-Reopen : goal.returns-in-Reopen
returns-in-Reopen c = by_action (λ (l : Line). IfOk c.open.result (λ outcome. ActsSo (net.corresponds c.args.self.now) (net.corresponds c.open.new.self) l outcome)) c.args.line.now _ c.in-Reopen.is c.open.ensures
