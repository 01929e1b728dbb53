use Rattle.std.proofs.Common.{◌≡◌, false}
use Rattle.cap_power.specs.Standing.{fails}
use Rattle.cap_power.specs.contracts.terminal.TerminalDiskJournalTermEntryMemoryDiskOverDiskTermEntry.TheImpl.{ghosts as term}
use Rattle.cap_power.specs.contracts.host.HostDiskJournalHostEntryMemoryDiskOverDiskHostEntry.TheImpl.{ghosts as ends}
use Rattle.cap_terminal_side.specs.declared.side.Side.{Side}
use Rattle.cap_network.proofs.Reporting.{PutTo}
use Rattle.cap_network.proofs.report.put_all.Given as goal

abbrev pub invariant-loop-place : goal.invariant-loop-place
invariant-loop-place l = record {
  works : fails ends.has_failed l.host ≡ false;
  put : PutTo term.entries term.disk term.has_failed ends.entries ends.disk ends.has_failed (λ (side : Side). side.power) l.ids l.sides l.fn.host l.host l.fn.text.items l.text.items l.place;
}
