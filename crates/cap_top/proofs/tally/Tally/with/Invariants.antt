use Rattle.std.proofs.Common.{◌≡◌, ◌≤◌, ◌+◌, take}
use Rattle.std.specs.Prelude.{fold}
use Rattle.cap_top.specs.Tally.{with_byte}
use Rattle.cap_top.proofs.tally.Tally.with.Given as goal

abbrev pub invariant-loop-byte : goal.invariant-loop-byte
invariant-loop-byte l = record {
  counted : l.tally ≡ fold with_byte l.fn.self (take l.byte-index l.piece);
  bytes : l.tally.bytes ≡ l.fn.self.bytes + l.byte-index;
  lines : l.tally.lines ≤ l.fn.self.lines + l.byte-index;
}
