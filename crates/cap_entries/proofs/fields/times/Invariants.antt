use Rattle.std.proofs.Common.{◌≡◌, ◌-◌, ◌≤◌, length}
use Rattle.cap_entries.specs.RecordParts.{times_at}
use Rattle.cap_entries.proofs.Places.{with_front}
use Rattle.cap_entries.proofs.fields.times.Given as goal

abbrev pub invariant-loop-value : goal.invariant-loop-value
invariant-loop-value g l = record {
  within : l.end ≤ length l.bytes;
  few : length l.list.items ≤ l.count;
  so_far : with_front l.list.items (times_at g.F.Field.reading (l.count - length l.list.items) l.bytes l.end) ≡ times_at g.F.Field.reading l.count l.bytes l.at;
}

abbrev pub decreases-loop-value : goal.decreases-loop-value
decreases-loop-value g l = l.count - length l.list.items
