use Rattle.std.proofs.Common.{◌<◌, length, arith}
use Rattle.cap_power.specs.contracts.terminal.TerminalDiskJournalTermEntryMemoryDiskOverDiskTermEntry.TheImpl.{ghosts as term}
use Rattle.cap_power.specs.contracts.host.HostDiskJournalHostEntryMemoryDiskOverDiskHostEntry.TheImpl.{ghosts as ends}
use Rattle.cap_terminal_side.specs.declared.side.Side.{Side}
use Rattle.cap_network.proofs.Reporting.{put_more, no_more_names, no_more_sides}
use Rattle.cap_network.proofs.report.put_all.Goals as goal

pub returns-then-place-ids-clause-text : goal.returns-then-place-ids-clause-text
returns-then-place-ids-clause-text c =
    no_more_names term.entries term.disk term.has_failed ends.entries ends.disk ends.has_failed (λ (side : Side). side.power) c.args.ids.now c.args.sides.now c.args.host.now c.loop-place.host c.args.text.now.items c.loop-place.text.items c.loop-place.place
    c.if-place-ids.true c.loop-place.invariant.put

pub loop-place-preserved : goal.loop-place-preserved
loop-place-preserved c =
    let in_ids : c.loop-place.place < length c.args.ids.now = omega (arith, c.if-place-ids.false) in
    let in_sides : c.loop-place.place < length c.args.sides.now = omega (arith, c.loop-place-test.true) in
    record {
      works = c.in_ok-put_end.ensures.works;
      put = put_more term.entries term.disk term.has_failed ends.entries ends.disk ends.has_failed (λ (side : Side). side.power) c.args.ids.now c.args.sides.now c.args.host.now c.loop-place.host c.args.text.now.items c.loop-place.text.items c.loop-place.place
          c.put_end.new.host c.put_end.new.text.items c.index-ids-place.result c.index-sides-place.result in_ids in_sides c.index-ids-place.is c.index-sides-place.is c.in_ok-put_end.ensures.text c.loop-place.invariant.put;
    }

pub returns-clause-text : goal.returns-clause-text
returns-clause-text c =
    no_more_sides term.entries term.disk term.has_failed ends.entries ends.disk ends.has_failed (λ (side : Side). side.power) c.args.ids.now c.args.sides.now c.args.host.now c.loop-place.host c.args.text.now.items c.loop-place.text.items c.loop-place.place
    c.loop-place-test.false c.loop-place.invariant.put
