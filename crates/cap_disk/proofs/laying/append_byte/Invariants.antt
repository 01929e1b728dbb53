use Rattle.std.proofs.Common.{◌≡◌, ◌++◌, replicate, vec_capacity}
use Rattle.cap_disk.proofs.laying.append_byte.Given as goal

abbrev pub invariant-loop-done : goal.invariant-loop-done
invariant-loop-done l = record {
  items : l.out.items ≡ l.fn.out.items ++ replicate l.done l.byte;
  capacity : vec_capacity l.out ≡ vec_capacity l.fn.out;
}
