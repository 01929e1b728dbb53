use Rattle.std.proofs.Common.{◌≡◌, take}
use Rattle.cap_base.specs.Captured.{sums_of}
use Rattle.cap_plain.specs.Bounded.{IsBounded}
use Rattle.cap_plain.proofs.period.sums.Given as goal

abbrev pub invariant-loop-item : goal.invariant-loop-item
invariant-loop-item l = record {
  sums : l.so_far ≡ sums_of (take l.item-index l.items);
  bounded : IsBounded l.so_far;
}
