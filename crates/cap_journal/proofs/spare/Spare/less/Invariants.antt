use Rattle.std.proofs.Common.{◌≡◌, ◌≤◌, ◌+◌, ◌*◌, length, drop, map, sum, All, IsTrue}
use Rattle.cap_journal.specs.Spare.{less, bytes_for, entries_for}
use Rattle.cap_journal.proofs.spare.Spare.less.Given as goal

abbrev pub invariant-loop-entry : goal.invariant-loop-entry
invariant-loop-entry g l = record {
  fits : All (λ entry. IsTrue (g.E.Record.fits entry)) (drop l.entry-index l.added);
  left : less (map (λ entry. length (g.E.Record.bytes_of entry)) (drop l.entry-index l.added)) l.spare ≡ less (map (λ entry. length (g.E.Record.bytes_of entry)) l.added) l.fn.self;
  entries : entries_for l.spare + l.entry-index ≡ entries_for l.fn.self;
  bytes : bytes_for l.spare + sum (map (λ entry. length (g.E.Record.bytes_of entry)) l.added) + 6 * l.entry-index ≤ bytes_for l.fn.self + sum (map (λ entry. length (g.E.Record.bytes_of entry)) (drop l.entry-index l.added));
}
