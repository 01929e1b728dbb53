use Rattle.std.proofs.Common.{◌≡◌, drop}
use Rattle.cap_base.specs.Captured.{after_close}
use Rattle.cap_plain.proofs.period.after.Given as goal

abbrev pub invariant-loop-i : goal.invariant-loop-i
invariant-loop-i l = after_close l.p (drop l.i l.items) ≡ after_close l.p l.items
