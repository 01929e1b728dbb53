use Rattle.std.proofs.Common.{◌≡◌, List, ◌++◌, length}
use Rattle.std.specs.Vec.Iter.{into_iter_items, into_iter_len}
use Rattle.cap_disk.specs.declared.memory.MemoryDisk.{MemoryDisk}
use Rattle.cap_power.specs.contracts.terminal.TerminalDiskJournalTermEntryMemoryDiskOverDiskTermEntry.TheImpl.{ghosts as term}
use Rattle.cap_terminal_side.specs.declared.side.Side.{Side}
use Rattle.cap_network.specs.Opened.{AreDisksOf}
use Rattle.cap_network.proofs.opening.disks_of.Given as goal

abbrev pub invariant-loop-side : goal.invariant-loop-side
invariant-loop-side l = record {
  many : into_iter_len l.side-iterator ≡ length (into_iter_items l.side-iterator);
  so_far : (more : List MemoryDisk) → AreDisksOf term.entries term.disk term.has_failed (λ (side : Side). side.power) (into_iter_items l.side-iterator) more
      → AreDisksOf term.entries term.disk term.has_failed (λ (side : Side). side.power) l.fn.sides.items (l.disks.items ++ more);
}
