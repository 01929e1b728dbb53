use Rattle.std.proofs.Common.{◌≡◌, drop}
use Rattle.cap_entries.specs.InForce.{version_in_force_from, version_in_force}
use Rattle.cap_terminal_answers.proofs.part.in_force.Given as goal

abbrev pub invariant-loop-entry : goal.invariant-loop-entry
invariant-loop-entry l = version_in_force_from l.version (drop l.entry-index l.entries) ≡ version_in_force l.entries
