use Rattle.std.proofs.Common.{◌≡◌, drop}
use Rattle.cap_leaf.specs.View.{table_view}
use Rattle.cap_text.specs.Machine.{satisfied}
use Rattle.cap_text.proofs.rows.satisfied.Given as goal

abbrev pub invariant-loop-i : goal.invariant-loop-i
invariant-loop-i l = satisfied (table_view (drop l.fn.at l.nodes)) l.fn.count ≡ satisfied (table_view (drop l.i l.nodes)) l.stood
