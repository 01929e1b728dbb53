use Rattle.std.proofs.Common.{List, subst}
use Rattle.cap_entries.specs.Settings.{TerminalSettings}
use Rattle.cap_power.specs.contracts.terminal.TerminalDiskJournalTermEntryMemoryDiskOverDiskTermEntry.TheImpl.{ghosts as term}
use Rattle.cap_power.specs.contracts.host.HostDiskJournalHostEntryMemoryDiskOverDiskHostEntry.TheImpl.{ghosts as ends}
use Rattle.cap_terminal_side.specs.declared.side.Side.{Side}
use Rattle.cap_network.specs.Opened.{AreStarted}
use Rattle.cap_network.proofs.Starting.{first_stand}
use Rattle.cap_network.proofs.opening.NetworkEnds.set_up.Goals as goal

pub returns : goal.returns
returns c =
    first_stand term.entries term.disk term.has_failed ends.entries ends.disk ends.has_failed (λ (side : Side). side.power) c.args.schedule.now c.in_ok-host.host c.in_ok-sides.sides.items c.in_ok-host.ensures.stands
    (subst (λ (l : List TerminalSettings). AreStarted term.entries term.disk term.has_failed (λ (side : Side). side.power) c.in_ok-sides.sides.items l) c.as_slice.ensures c.in_ok-sides.ensures)
