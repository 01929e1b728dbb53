use Rattle.std.proofs.Common.{◌≤◌, ◌-◌}
use Rattle.cap_lines.specs.Reading.{IsPrompt}
use Rattle.cap_lines.proofs.Turning.{HasComeTo}
use Rattle.cap_lines.proofs.reader.LineReader.next.Given as goal

abbrev pub invariant-pieces : goal.invariant-pieces
invariant-pieces g l = record {
  so_far : HasComeTo l.initial.self (g.S.Source.left l.initial.input) (g.S.Source.left l.input) l.self;
  prompt : IsPrompt l.initial.self (g.S.Source.left l.initial.input) l.self;
  faults : g.S.Source.faults l.initial.input ≤ g.S.Source.faults l.input;
}

abbrev pub decreases-pieces : goal.decreases-pieces
decreases-pieces g l = 16777217 - l.self.taken
