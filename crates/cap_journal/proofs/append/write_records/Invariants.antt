use Rattle.std.proofs.Common.{◌≡◌, ◌+◌, ◌≤◌, ◌++◌, length, drop, All, IsTrue, vec_capacity}
use Rattle.cap_journal.specs.Group.{joined}
use Rattle.cap_journal.proofs.append.write_records.Given as goal

abbrev pub invariant-loop-entry : goal.invariant-loop-entry
invariant-loop-entry g l = record {
  fits : All (λ entry. IsTrue (g.E.Record.fits entry)) (drop l.entry-index l.added);
  so_far : l.buffer.items ++ joined g.E.Record.bytes_of (drop l.entry-index l.added) ≡ l.fn.buffer.items ++ joined g.E.Record.bytes_of l.added;
  room : length l.buffer.items + length (joined g.E.Record.bytes_of (drop l.entry-index l.added)) ≤ vec_capacity l.buffer;
  capacity : vec_capacity l.buffer ≡ vec_capacity l.fn.buffer;
}
