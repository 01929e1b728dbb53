use Rattle.std.proofs.Common.{◌≡◌, [], true, take, drop, None}
use Rattle.std.specs.Prelude.{IsTrue}
use Rattle.cap_entries.specs.HostAllowed.{all_host_allowed}
use Rattle.cap_entries.specs.FirstNotAllowed.{first_host_refused}
use Rattle.cap_entries.specs.HostSummary.{host_summary}
use Rattle.cap_ledger.specs.Ledger.{entries_in, is_readable, OnlyReads}
use Rattle.cap_host.specs.Host.{ending}
use Rattle.cap_host.specs.Tables.{TablesTie}
use Rattle.cap_host.proofs.opening.read_all.Given as goal

abbrev pub invariant-loop-i : goal.invariant-loop-i
invariant-loop-i g l =
    let entries = entries_in l.fn.ledger in
    record {
      judged : l.judge ≡ host_summary (take l.i entries);
      tied : TablesTie (take l.i entries) l.tables;
      legal : all_host_allowed [] (take l.i entries) ≡ true;
      rest : first_host_refused (take l.i entries) (drop l.i entries) ≡ first_host_refused [] entries;
      readable : IsTrue (is_readable l.ledger);
      same : entries_in l.ledger ≡ entries;
      reads : OnlyReads l.fn.ledger l.ledger (ending None);
    }
