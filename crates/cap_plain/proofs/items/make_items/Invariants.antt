use Rattle.std.proofs.Common.{◌≡◌, take}
use Rattle.cap_entries.specs.Items.{items}
use Rattle.cap_plain.proofs.items.make_items.Given as goal

abbrev pub invariant-loop-i : goal.invariant-loop-i
invariant-loop-i l = l.made.items ≡ items (take l.i l.entries)
