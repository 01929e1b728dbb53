use Rattle.std.proofs.Common.{◌≡◌, true, take}
use Rattle.std.specs.List.{list_all}
use Rattle.cap_entries.specs.RecordField.{is_row}
use Rattle.cap_terminal.proofs.add.check_rows.Given as goal

abbrev pub invariant-loop-row : goal.invariant-loop-row
invariant-loop-row l = list_all is_row (take l.row-index l.rows) ≡ true
