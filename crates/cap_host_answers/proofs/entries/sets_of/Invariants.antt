use Rattle.std.proofs.Common.{◌≡◌, ◌++◌, drop}
use Rattle.cap_entries.specs.Log.{published}
use Rattle.cap_host_answers.proofs.entries.sets_of.Given as goal

abbrev pub invariant-loop-entry : goal.invariant-loop-entry
invariant-loop-entry l = l.sets.items ++ published (drop l.entry-index l.entries) ≡ published l.entries
