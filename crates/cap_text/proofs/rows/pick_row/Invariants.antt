use Rattle.std.proofs.Common.{◌≡◌, drop}
use Rattle.cap_leaf.specs.View.{table_view}
use Rattle.cap_text.specs.Machine.{pick}
use Rattle.cap_text.proofs.rows.pick_row.Given as goal

abbrev pub invariant-loop-i : goal.invariant-loop-i
invariant-loop-i l = pick (table_view l.nodes) 0 l.tag ≡ pick (table_view (drop l.i l.nodes)) l.i l.tag
