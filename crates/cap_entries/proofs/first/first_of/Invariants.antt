use Rattle.std.proofs.Common.{◌≡◌, [], true, take, drop}
use Rattle.cap_entries.specs.Allowed.{all_allowed}
use Rattle.cap_entries.specs.FirstNotAllowed.{first_refused, first_not_allowed}
use Rattle.cap_entries.specs.Summary.{summary}
use Rattle.cap_entries.proofs.first.first_of.Given as goal

abbrev pub invariant-loop-i : goal.invariant-loop-i
invariant-loop-i l = record {
  judge : l.judge ≡ summary (take l.i l.entries);
  legal : all_allowed [] (take l.i l.entries) ≡ true;
  rest : first_refused (take l.i l.entries) (drop l.i l.entries) ≡ first_not_allowed l.entries;
}
