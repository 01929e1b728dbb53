use Rattle.std.proofs.Common.{◌≡◌, ◌-◌, ◌<◌, length, drop}
use Rattle.cap_journal.specs.File.{journal_of, behind}
use Rattle.cap_journal.specs.Reading.{groups_from}
use Rattle.cap_journal.proofs.open.read_groups.Given as goal

abbrev pub invariant-loop-place : goal.invariant-loop-place
invariant-loop-place g l = record {
  within : l.place < length l.image;
  gates : length l.gates.items ≡ length l.entries.items;
  so_far : journal_of g.E.Record.reading l.image ≡ behind l.entries.items l.gates.items (groups_from g.E.Record.reading l.place (drop l.place l.image));
}

abbrev pub decreases-loop-place : goal.decreases-loop-place
decreases-loop-place g l = length l.image - l.place
