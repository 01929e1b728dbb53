use Rattle.std.proofs.Common.{◌≡◌, ◌==◌, true, take, length}
use Rattle.std.specs.List.{list_all}
use Rattle.cap_host_side.proofs.starting.are_of_six.Given as goal

abbrev pub invariant-loop-prefix : goal.invariant-loop-prefix
invariant-loop-prefix l = list_all (λ prefix. length prefix == 6) (take l.prefix-index l.prefixes) ≡ true
