use Rattle.std.proofs.Common.{◌≡◌, ◌+◌, length, drop, map, sum, All, IsTrue}
use Rattle.cap_journal.proofs.append.total_size.Given as goal

abbrev pub invariant-loop-entry : goal.invariant-loop-entry
invariant-loop-entry g l = record {
  fits : All (λ entry. IsTrue (g.E.Record.fits entry)) (drop l.entry-index l.added);
  so_far : l.total + sum (map (λ entry. length (g.E.Record.bytes_of entry)) (drop l.entry-index l.added)) ≡ sum (map (λ entry. length (g.E.Record.bytes_of entry)) l.added);
}
