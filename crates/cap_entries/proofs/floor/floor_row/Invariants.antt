use Rattle.std.proofs.Common.{◌≡◌, drop}
use Rattle.cap_entries.specs.Floor.{floor_row}
use Rattle.cap_entries.proofs.floor.floor_row.Given as goal

abbrev pub invariant-loop-row : goal.invariant-loop-row
invariant-loop-row l = floor_row (drop l.row-index l.rows) ≡ floor_row l.rows
