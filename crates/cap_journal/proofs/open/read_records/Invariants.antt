use Rattle.std.proofs.Common.{◌≡◌, ◌-◌, ◌≤◌, length, drop}
use Rattle.cap_journal.specs.Reading.{all_records, with_front}
use Rattle.cap_journal.proofs.open.read_records.Given as goal

abbrev pub invariant-loop-at : goal.invariant-loop-at
invariant-loop-at g l = record {
  within : l.at ≤ length l.body;
  so_far : with_front l.fn.entries.items (all_records g.E.Record.reading l.body) ≡ with_front l.entries.items (all_records g.E.Record.reading (drop l.at l.body));
}

abbrev pub decreases-loop-at : goal.decreases-loop-at
decreases-loop-at g l = length l.body - l.at
