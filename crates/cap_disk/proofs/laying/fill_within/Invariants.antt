use Rattle.std.proofs.Common.{◌≡◌, ◌+◌, ◌≤◌, replicate, vec_len, vec_capacity}
use Rattle.cap_disk.specs.Disk.{overwrite}
use Rattle.cap_disk.proofs.laying.fill_within.Given as goal

abbrev pub invariant-loop-done : goal.invariant-loop-done
invariant-loop-done l = record {
  at : l.at ≡ l.place + l.done;
  items : l.shown.items ≡ overwrite l.fn.shown.items l.place (replicate l.done l.byte);
  capacity : vec_capacity l.shown ≡ vec_capacity l.fn.shown;
  longest : vec_len l.shown ≤ vec_len l.fn.shown + l.done;
}
