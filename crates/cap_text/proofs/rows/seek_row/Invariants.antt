use Rattle.std.proofs.Common.{◌≡◌, drop}
use Rattle.cap_leaf.specs.View.{table_view}
use Rattle.cap_text.specs.Machine.{seek}
use Rattle.cap_text.proofs.rows.seek_row.Given as goal

abbrev pub invariant-loop-i : goal.invariant-loop-i
invariant-loop-i l = seek (table_view (drop l.fn.at l.nodes)) l.fn.at l.fn.count l.tag ≡ seek (table_view (drop l.i l.nodes)) l.i l.stood l.tag
