use Rattle.std.proofs.Common.{◌≡◌, take}
use Rattle.cap_host.proofs.opening.names_of.Given as goal

abbrev pub invariant-loop-name : goal.invariant-loop-name
invariant-loop-name l = l.names.keys ≡ take l.name-index l.setup.terminals
