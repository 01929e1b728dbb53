use Rattle.std.proofs.Common.{◌≡◌, ◌≤◌, ◌-◌, ℕ, List}
use Rattle.std.specs.Io.KnownBytes.{Consumes}
use Rattle.cap_text.specs.Reads.{HasRead}
use Rattle.cap_top.specs.Tally.{tally_of}
use Rattle.cap_top.proofs.input.feed_all.Given as goal

abbrev pub invariant-pieces : goal.invariant-pieces
invariant-pieces g l = record {
  bytes : List ℕ;
  taken : Consumes (g.S.Source.left l.initial.input) (g.S.Source.left l.input) bytes;
  read : HasRead l.reader bytes;
  tally : l.tally ≡ tally_of bytes;
  faults : g.S.Source.faults l.initial.input ≤ g.S.Source.faults l.input;
}

abbrev pub decreases-pieces : goal.decreases-pieces
decreases-pieces g l = 16777217 - l.tally.bytes
