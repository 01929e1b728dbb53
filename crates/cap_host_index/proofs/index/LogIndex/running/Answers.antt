use Rattle.std.proofs.Common.{sym, ◌∙◌, ap, ◌+◌}
use Rattle.cap_base.specs.Captured.{period_totals}
use Rattle.cap_entries.specs.Log.{log}
use Rattle.cap_host_index.proofs.index.LogIndex.running.Goals as goal

pub returns : goal.returns
returns c = λ entries terminal index. index.tallies.periods.running_is ∙ ap (λ k. period_totals (log entries terminal) (k + 1)) (sym index.tallies.periods.closes)
