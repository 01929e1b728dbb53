use Rattle.std.proofs.Common.{◌≡◌, ◌+◌, ◌≤◌, ◌++◌, length, drop, map, sum, All, IsTrue, vec_capacity}
use Rattle.cap_pages.specs.Paged.{marks_of}
use Rattle.cap_pages.proofs.marks.note_marks.Given as goal

abbrev pub invariant-loop-entry : goal.invariant-loop-entry
invariant-loop-entry g l = record {
  fits : All (λ entry. IsTrue (g.E.Record.fits entry)) (drop l.entry-index l.added);
  sizes : l.before + sum (map (λ entry. length (g.E.Record.bytes_of entry)) (drop l.entry-index l.added)) ≤ 65536;
  so_far : l.marks.items ++ marks_of g.E.Record.bytes_of l.gate l.before (drop l.entry-index l.added) ≡ l.fn.marks.items ++ marks_of g.E.Record.bytes_of l.gate 0 l.added;
  room : length l.marks.items + length (drop l.entry-index l.added) ≤ vec_capacity l.marks;
  capacity : vec_capacity l.marks ≡ vec_capacity l.fn.marks;
}
