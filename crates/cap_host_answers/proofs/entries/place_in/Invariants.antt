use Rattle.std.proofs.Common.{◌≡◌, drop}
use Rattle.cap_host_answers.specs.Received.{place_from}
use Rattle.cap_host_answers.proofs.entries.place_in.Given as goal

abbrev pub invariant-loop-i : goal.invariant-loop-i
invariant-loop-i l = place_from l.i (drop l.i l.names) l.name ≡ place_from 0 l.names l.name
