use Rattle.cap_power.specs.contracts.terminal.TerminalDiskJournalTermEntryMemoryDiskOverDiskTermEntry.TheImpl.{ghosts as term}
use Rattle.cap_terminal_side.specs.declared.side.Side.{Side}
use Rattle.cap_network.proofs.Starting.{started_none, started_more, started_last}
use Rattle.cap_network.proofs.opening.sides_of.Goals as goal

pub loop-setup-init : goal.loop-setup-init
loop-setup-init c = λ more are. started_none term.entries term.disk term.has_failed (λ (side : Side). side.power) c.new-sides.result.items more c.args.setups.now c.new-sides.ensures.items are

pub loop-setup-preserved : goal.loop-setup-preserved
loop-setup-preserved c =
    started_more term.entries term.disk term.has_failed (λ (side : Side). side.power) c.loop-setup.sides.items c.push.new.self.items c.args.setups.now c.loop-setup.setup-index c.in_ok-set_up.field-0 c.setup-item.result
    c.loop-setup-test.true c.setup-item.is c.in_ok-set_up.ensures c.in_ok-push.ensures.items c.loop-setup.invariant

pub returns : goal.returns
returns c = started_last term.entries term.disk term.has_failed (λ (side : Side). side.power) c.loop-setup.sides.items c.args.setups.now c.loop-setup.setup-index c.loop-setup-test.false c.loop-setup.invariant
