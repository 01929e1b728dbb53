use Rattle.cap_power.specs.contracts.terminal.TerminalDiskJournalTermEntryMemoryDiskOverDiskTermEntry.TheImpl.{ghosts as term}
use Rattle.cap_power.specs.contracts.host.HostDiskJournalHostEntryMemoryDiskOverDiskHostEntry.TheImpl.{ghosts as ends}
use Rattle.cap_terminal_side.specs.declared.side.Side.{Side}
use Rattle.cap_network.proofs.Hosts as H
use Rattle.cap_network.proofs.network.Network.wake_host.Goals as goal

pub returns-in_ok-reopen-in-Off : goal.returns-in_ok-reopen-in-Off
returns-in_ok-reopen-in-Off c =
    let net = c.args.self.now in
    H.close_is term.entries term.disk term.has_failed ends.entries ends.disk ends.has_failed (λ (side : Side). side.power) net.lines net.host c.reopen.new.power net.sides.items c.in-Off.field-0 c.in_ok-reopen-in-Off.field-0 c.in-Off.is c.in_ok-reopen-in-Off.ensures.opens
