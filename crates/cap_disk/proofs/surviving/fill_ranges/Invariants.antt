use Rattle.std.proofs.Common.{◌≡◌, ◌≤◌, ◌+◌, drop, vec_len, vec_capacity}
use Rattle.cap_disk.specs.History.{lens}
use Rattle.cap_disk.specs.Survivor.{fill_calls}
use Rattle.cap_disk.proofs.surviving.fill_ranges.Given as goal

abbrev pub invariant-loop-call : goal.invariant-loop-call
invariant-loop-call l = record {
  so_far : fill_calls l.byte l.first.items (drop l.call-index l.log) ≡ fill_calls l.byte l.fn.first.items l.log;
  capacity : vec_capacity l.first ≡ vec_capacity l.fn.first;
  longest : vec_len l.first + lens (drop l.call-index l.log) ≤ vec_len l.fn.first + lens l.log;
}
