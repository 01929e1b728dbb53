use Rattle.std.proofs.Common.{List, ◌++◌, drop}
use Rattle.cap_power.specs.contracts.terminal.TerminalDiskJournalTermEntryMemoryDiskOverDiskTermEntry.TheImpl.{ghosts as term}
use Rattle.cap_terminal_side.specs.declared.side.Side.{Side}
use Rattle.cap_network.specs.Opened.{AreStarted}
use Rattle.cap_network.proofs.opening.sides_of.Given as goal

abbrev pub invariant-loop-setup : goal.invariant-loop-setup
invariant-loop-setup l =
    (more : List Side) → AreStarted term.entries term.disk term.has_failed (λ (side : Side). side.power) more (drop l.setup-index l.setups)
    → AreStarted term.entries term.disk term.has_failed (λ (side : Side). side.power) (l.sides.items ++ more) l.setups
