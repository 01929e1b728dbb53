use Rattle.std.proofs.Common.{◌≡◌, take, drop}
use Rattle.cap_entries.specs.Rows.{first_repeated_from, first_repeated}
use Rattle.cap_entries.proofs.rows.repeated.Given as goal

abbrev pub invariant-loop-i : goal.invariant-loop-i
invariant-loop-i l = first_repeated_from (take l.i l.rows) (drop l.i l.rows) ≡ first_repeated l.rows
