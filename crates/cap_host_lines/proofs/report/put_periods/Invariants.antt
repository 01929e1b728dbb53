use Rattle.std.proofs.Common.{◌≡◌, ◌≤◌, ◌++◌}
use Rattle.std.specs.Prelude.{count_by}
use Rattle.cap_base.specs.Item.{is_any_close}
use Rattle.cap_entries.specs.Log.{log}
use Rattle.cap_host.specs.Host.{entries_of}
use Rattle.cap_host_lines.specs.Logs.{periods_text}
use Rattle.cap_host_lines.proofs.report.put_periods.Given as goal

abbrev pub invariant-loop-q : goal.invariant-loop-q
invariant-loop-q g l =
    let own = log (entries_of l.host) l.place in
    record {
      few : l.q ≤ count_by is_any_close own;
      text_is : l.text.items ≡ l.initial.text.items ++ periods_text l.id own l.q;
    }
