use Rattle.std.proofs.Common.{◌≡◌, ◌++◌, drop, map}
use Rattle.cap_schedule.proofs.setups.names_of.Given as goal

abbrev pub invariant-loop-t : goal.invariant-loop-t
invariant-loop-t l = l.names.items ++ map (λ t. t.terminal) (drop l.t-index l.terminals) ≡ map (λ t. t.terminal) l.terminals
