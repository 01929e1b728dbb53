use Rattle.std.proofs.Common.{◌≡◌, ◌+◌, ◌≤◌, take, vec_len, vec_capacity}
use Rattle.cap_disk.specs.Disk.{overwrite}
use Rattle.cap_disk.proofs.laying.lay_within.Given as goal

abbrev pub invariant-loop-byte : goal.invariant-loop-byte
invariant-loop-byte l = record {
  at : l.at ≡ l.place + l.byte-index;
  items : l.shown.items ≡ overwrite l.fn.shown.items l.place (take l.byte-index l.bytes);
  capacity : vec_capacity l.shown ≡ vec_capacity l.fn.shown;
  longest : vec_len l.shown ≤ vec_len l.fn.shown + l.byte-index;
}
