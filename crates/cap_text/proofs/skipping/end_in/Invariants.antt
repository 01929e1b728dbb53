use Rattle.std.proofs.Common.{◌≡◌, ◌+◌, drop}
use Rattle.std.specs.List.{position_or_len}
use Rattle.cap_text.specs.Faults.{is_end}
use Rattle.cap_text.proofs.skipping.end_in.Given as goal

abbrev pub invariant-loop-i : goal.invariant-loop-i
invariant-loop-i l = l.i + position_or_len is_end (drop l.i l.bytes) ≡ position_or_len is_end l.bytes
