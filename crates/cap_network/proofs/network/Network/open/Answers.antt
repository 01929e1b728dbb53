use Rattle.std.specs.Prelude.{IfOk}
use Rattle.cap_plays.specs.Session.{ActsSo}
use Rattle.cap_schedule.specs.declared.schedule.End.{End}
use Rattle.cap_network.specs.Nowhere.{reopening_line}
use Rattle.cap_network.specs.contracts.network.NetworkNetwork.TheImpl.{ghosts as net}
use Rattle.cap_network.proofs.Doing.{by_end}
use Rattle.cap_network.proofs.network.Network.open.Goals as goal

pub returns-in-Host : goal.returns-in-Host
returns-in-Host c = by_end (λ (e : End). IfOk c.open_host.result (λ outcome. ActsSo (net.corresponds c.args.self.now) (net.corresponds c.open_host.new.self) (reopening_line c.args.number c.args.prefix e) outcome)) c.args.end _ c.in-Host.is c.open_host.ensures

pub returns-in-Terminal : goal.returns-in-Terminal
returns-in-Terminal c =
    by_end (λ (e : End). IfOk c.open_terminal.result (λ outcome. ActsSo (net.corresponds c.args.self.now) (net.corresponds c.open_terminal.new.self) (reopening_line c.args.number c.args.prefix e) outcome)) c.args.end _ c.in-Terminal.is c.open_terminal.ensures
