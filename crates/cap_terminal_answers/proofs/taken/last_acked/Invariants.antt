use Rattle.std.proofs.Common.{◌≡◌, drop}
use Rattle.cap_entries.specs.Acked.{acked_from, acked}
use Rattle.cap_terminal_answers.proofs.taken.last_acked.Given as goal

abbrev pub invariant-loop-entry : goal.invariant-loop-entry
invariant-loop-entry l = acked_from l.last (drop l.entry-index l.entries) ≡ acked l.entries
