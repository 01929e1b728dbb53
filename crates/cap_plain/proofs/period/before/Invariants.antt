use Rattle.std.proofs.Common.{◌≡◌, ◌++◌, take, drop}
use Rattle.cap_base.specs.Captured.{before_close}
use Rattle.cap_plain.proofs.period.before.Given as goal

abbrev pub invariant-loop-i : goal.invariant-loop-i
invariant-loop-i l = take l.i l.items ++ before_close l.p (drop l.i l.items) ≡ before_close l.p l.items
