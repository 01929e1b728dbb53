use Rattle.cap_power.specs.contracts.terminal.TerminalDiskJournalTermEntryMemoryDiskOverDiskTermEntry.TheImpl.{ghosts as term}
use Rattle.cap_power.specs.contracts.host.HostDiskJournalHostEntryMemoryDiskOverDiskHostEntry.TheImpl.{ghosts as ends}
use Rattle.cap_terminal_side.specs.declared.side.Side.{Side}
use Rattle.cap_network.proofs.Starting.{disks_hold}
use Rattle.cap_network.proofs.opening.NetworkEnds.into_disks.Goals as goal

pub returns : goal.returns
returns c = λ w doubts stands on.
    let net = c.args.self in
    disks_hold term.entries term.disk term.has_failed ends.entries ends.disk ends.has_failed (λ (side : Side). side.power) net.lines net.host net.sides.items c.in_ok-host.host c.in_ok-disks.disks.items c.insert.new.self.items w doubts
    stands on c.in_ok-host.ensures.has c.in_ok-disks.ensures c.in_ok-insert.ensures.items
