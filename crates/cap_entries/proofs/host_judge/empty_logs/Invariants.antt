use Rattle.std.proofs.Common.{◌≡◌, replicate}
use Rattle.cap_entries.specs.LogSummary.{no_log}
use Rattle.cap_entries.proofs.host_judge.empty_logs.Given as goal

abbrev pub invariant-loop : goal.invariant-loop
invariant-loop l = l.logs.items ≡ replicate l.counter no_log
