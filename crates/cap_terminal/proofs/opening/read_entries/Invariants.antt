use Rattle.std.proofs.Common.{◌≡◌, ◌≤◌, [], true, take, drop, length}
use Rattle.std.specs.Prelude.{IsTrue}
use Rattle.cap_disk.specs.Disk.{LeavesOnly, StaysCounted}
use Rattle.cap_entries.specs.Allowed.{all_allowed}
use Rattle.cap_entries.specs.FirstNotAllowed.{first_refused}
use Rattle.cap_entries.specs.Summary.{summary}
use Rattle.cap_terminal.specs.Index.{index_of}
use Rattle.cap_terminal.specs.View.{index_view}
use Rattle.cap_terminal.specs.Opening.{setup_in}
use Rattle.cap_terminal.proofs.opening.read_entries.Given as goal

abbrev pub invariant-loop-i : goal.invariant-loop-i
invariant-loop-i g l =
    let J = g.J.Journal in
    let entries = J.entries l.initial.journal in
    record {
      judged : l.judge ≡ summary (take l.i entries);
      indexed : index_view l.index ≡ index_of (take l.i entries);
      started : l.setup ≡ setup_in (take l.i entries);
      legal : all_allowed [] (take l.i entries) ≡ true;
      rest : first_refused (take l.i entries) (drop l.i entries) ≡ first_refused [] entries;
      many : l.i-end ≡ length entries;
      readable : IsTrue (J.is_readable l.journal);
      is_readable : J.is_readable l.journal ≡ J.is_readable l.initial.journal;
      len : J.len l.journal ≡ J.len l.initial.journal;
      same : J.entries l.journal ≡ entries;
      faults : J.faults l.initial.journal ≤ J.faults l.journal;
      counts : StaysCounted (J.counts l.initial.journal) (J.counts l.journal);
      has_failed : J.has_failed l.journal ≡ J.has_failed l.initial.journal;
      tells : J.tells l.journal ≡ J.tells l.initial.journal;
      images : IsTrue (J.tells l.initial.journal) → LeavesOnly J.moment J.left_since l.initial.journal l.journal (J.may_leave l.initial.journal);
    }
