use Rattle.std.specs.Prelude.{OnOk}
use Rattle.cap_plays.specs.Session.{ReopensSo}
use Rattle.cap_schedule.specs.declared.schedule.End.{End}
use Rattle.cap_network.specs.contracts.network.NetworkNetwork.TheImpl.{ghosts as net}
use Rattle.cap_network.proofs.Doing.{by_end}
use Rattle.cap_network.proofs.network.Network.close.Goals as goal

pub returns-in-Host : goal.returns-in-Host
returns-in-Host c = by_end (λ (e : End). OnOk c.wake_host.result (ReopensSo (net.corresponds c.args.self.now) (net.corresponds c.wake_host.new.self) e)) c.args.end _ c.in-Host.is c.wake_host.ensures

pub returns-in-Terminal : goal.returns-in-Terminal
returns-in-Terminal c = by_end (λ (e : End). OnOk c.wake_terminal.result (ReopensSo (net.corresponds c.args.self.now) (net.corresponds c.wake_terminal.new.self) e)) c.args.end _ c.in-Terminal.is c.wake_terminal.ensures
