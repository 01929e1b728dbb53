use Rattle.std.proofs.Common.{◌≡◌, ◌++◌, take, vec_capacity}
use Rattle.cap_journal_trials.proofs.sample.append.Given as goal

abbrev pub invariant-loop-byte : goal.invariant-loop-byte
invariant-loop-byte l = record {
  items : l.out.items ≡ l.fn.out.items ++ take l.byte-index l.bytes;
  capacity : vec_capacity l.out ≡ vec_capacity l.fn.out;
}
