use Rattle.std.proofs.Common.{◌≡◌, ◌++◌, drop, map}
use Rattle.std.specs.List.{list_all}
use Rattle.cap_schedule.specs.Blocks.{has_six}
use Rattle.cap_schedule.proofs.blocks.prefixes_of.Given as goal

abbrev pub invariant-loop-piece : goal.invariant-loop-piece
invariant-loop-piece l = record {
  made : l.prefixes.items ++ map (λ p. p.now) (drop l.piece-index l.pieces) ≡ map (λ p. p.now) l.pieces;
  six : list_all has_six (map (λ p. p.now) (drop l.piece-index l.pieces)) ≡ list_all has_six (map (λ p. p.now) l.pieces);
}
