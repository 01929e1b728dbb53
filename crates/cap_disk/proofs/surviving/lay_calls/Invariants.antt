use Rattle.std.proofs.Common.{◌≡◌, ◌≤◌, ◌+◌, drop, length, vec_len, vec_capacity}
use Rattle.cap_disk.specs.History.{all_taken, lens}
use Rattle.cap_disk.specs.Survivor.{laid}
use Rattle.cap_disk.proofs.surviving.lay_calls.Given as goal

abbrev pub invariant-loop-call : goal.invariant-loop-call
invariant-loop-call l = record {
  so_far : laid l.first.items (drop l.call-index l.log) l.rest ≡ laid l.fn.first.items l.log l.bytes;
  own : all_taken (drop l.call-index l.log) ≤ length l.rest;
  capacity : vec_capacity l.first ≡ vec_capacity l.fn.first;
  longest : vec_len l.first + lens (drop l.call-index l.log) ≤ vec_len l.fn.first + lens l.log;
}
