use Rattle.std.proofs.Common.{◌≡◌, [], true, take, drop}
use Rattle.cap_entries.specs.HostAllowed.{all_host_allowed}
use Rattle.cap_entries.specs.FirstNotAllowed.{first_host_refused, first_host_not_allowed}
use Rattle.cap_entries.specs.HostSummary.{host_summary}
use Rattle.cap_entries.proofs.first.first_host_of.Given as goal

abbrev pub invariant-loop-i : goal.invariant-loop-i
invariant-loop-i l = record {
  judge : l.judge ≡ host_summary (take l.i l.entries);
  legal : all_host_allowed [] (take l.i l.entries) ≡ true;
  rest : first_host_refused (take l.i l.entries) (drop l.i l.entries) ≡ first_host_not_allowed l.entries;
}
