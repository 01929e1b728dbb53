use Rattle.std.proofs.Common.{◌≡◌, drop, None}
use Rattle.cap_terminal_answers.specs.Numbers.{numbers_of}
use Rattle.cap_terminal_answers.proofs.part.last_part.Given as goal

abbrev pub invariant-loop-entry : goal.invariant-loop-entry
invariant-loop-entry l = numbers_of l.last (drop l.entry-index l.entries) ≡ numbers_of None l.entries
