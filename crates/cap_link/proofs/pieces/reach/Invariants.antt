use Rattle.std.proofs.Common.{◌≡◌, ℕ, ◌+◌, ◌-◌, ◌≤◌, length, max}
use Rattle.cap_link.specs.Pieces.{lists_of, piece}
use Rattle.cap_link.proofs.pieces.reach.Given as goal

abbrev pub invariant-places : goal.invariant-places
invariant-places l = ((k : ℕ) → piece (lists_of l.lists.items) k ≡ piece (lists_of l.fn.lists.items) k) × (length l.lists.items ≤ max (length l.fn.lists.items) (l.i + 1))

abbrev pub decreases-places : goal.decreases-places
decreases-places l = l.i + 1 - length l.lists.items
