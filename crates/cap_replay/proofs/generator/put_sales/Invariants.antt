use Rattle.std.proofs.Common.{◌≡◌}
use Rattle.cap_replay.specs.Generator.{sales_actions}
use Rattle.cap_replay.specs.Tallies.{Adds, tallies_at}
use Rattle.cap_replay.proofs.generator.put_sales.Given as goal

abbrev pub invariant-loop-n : goal.invariant-loop-n
invariant-loop-n l = record {
  tallies : l.tallies ≡ tallies_at l.n;
  lines : Adds l.initial.lines l.lines (sales_actions l.n);
}
