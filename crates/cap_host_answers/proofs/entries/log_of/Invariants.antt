use Rattle.std.proofs.Common.{◌≡◌, ◌++◌, drop}
use Rattle.cap_entries.specs.Log.{log}
use Rattle.cap_host_answers.proofs.entries.log_of.Given as goal

abbrev pub invariant-loop-entry : goal.invariant-loop-entry
invariant-loop-entry l = l.taken.items ++ log (drop l.entry-index l.entries) l.place ≡ log l.entries l.place
