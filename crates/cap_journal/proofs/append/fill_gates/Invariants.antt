use Rattle.std.proofs.Common.{◌≡◌, ◌-◌, ◌≤◌, ◌++◌, length, replicate, max, vec_capacity}
use Rattle.cap_journal.proofs.append.fill_gates.Given as goal

abbrev pub invariant-loop-gates : goal.invariant-loop-gates
invariant-loop-gates l = record {
  noted : l.gates.items ≡ l.fn.gates.items ++ replicate (length l.gates.items - length l.fn.gates.items) l.place;
  from : length l.fn.gates.items ≤ length l.gates.items;
  most : length l.gates.items ≤ max (length l.fn.gates.items) l.count;
  capacity : vec_capacity l.gates ≡ vec_capacity l.fn.gates;
}

abbrev pub decreases-loop-gates : goal.decreases-loop-gates
decreases-loop-gates l = l.count - length l.gates.items
