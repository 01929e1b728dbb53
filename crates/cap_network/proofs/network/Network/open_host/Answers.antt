use Rattle.std.proofs.Common.{subst}
use Rattle.cap_msgs.specs.Moment.{IsMoment}
use Rattle.cap_power.specs.contracts.terminal.TerminalDiskJournalTermEntryMemoryDiskOverDiskTermEntry.TheImpl.{ghosts as term}
use Rattle.cap_power.specs.contracts.host.HostDiskJournalHostEntryMemoryDiskOverDiskHostEntry.TheImpl.{ghosts as ends}
use Rattle.cap_terminal_side.specs.declared.side.Side.{Side}
use Rattle.cap_network.proofs.Hosts as H
use Rattle.cap_network.proofs.network.Network.open_host.Goals as goal

pub returns : goal.returns
returns c =
    let net = c.args.self.now in
    let moment = subst (λ n. IsMoment n c.date_of.ensures.0) c.moment_of.ensures.moment c.date_of.ensures.1 in
    H.open_done term.entries term.disk term.has_failed ends.entries ends.disk ends.has_failed (λ (side : Side). side.power) net.lines net.host c.reopen.new.power net.sides.items c.in_ok-outcome.outcome c.args.number c.args.prefix c.date_of.ensures.0 moment c.in_ok-outcome.ensures.opens
