use Rattle.std.proofs.Common.{◌≤◌, ◌^◌, ◌∙◌, arith}
use Rattle.cap_power.specs.contracts.terminal.TerminalDiskJournalTermEntryMemoryDiskOverDiskTermEntry.TheImpl.{ghosts as term}
use Rattle.cap_power.specs.contracts.host.HostDiskJournalHostEntryMemoryDiskOverDiskHostEntry.TheImpl.{ghosts as ends}
use Rattle.cap_terminal_side.specs.declared.side.Side.{Side}
use Rattle.cap_network.proofs.Reporting.{reports_by}
use Rattle.cap_network.proofs.network.Network.put_ends.Goals as goal

pub returns : goal.returns
returns c =
    let net = c.args.self.now in
    let few : net.lines ≤ 2 ^ 48 = omega (arith, c.if-self-gt-MOST_LINES.false) in
    reports_by term.entries term.disk term.has_failed ends.entries ends.disk ends.has_failed (λ (side : Side). side.power) c.put_all.result net.lines net.host c.put_all.new.host net.sides.items c.as_slice.result.now c.args.schedule.now c.as_slice-ids.result.now c.args.text.now.items c.put_all.new.text.items
    few c.requires (c.as_slice-ids.ensures.names ∙ c.terminals.ensures.value) c.as_slice.ensures.value c.put_all.ensures.text
