use Rattle.std.proofs.Common.{◌≡◌, length}
use Rattle.cap_schedule.specs.Hex.{hex_bytes}
use Rattle.cap_schedule.proofs.Several.{onto}
use Rattle.cap_schedule.proofs.hex.hex_bytes.Given as goal

abbrev pub invariant-pairs : goal.invariant-pairs
invariant-pairs l = onto l.bytes.items (hex_bytes l.rest) ≡ hex_bytes l.fn.text

abbrev pub decreases-pairs : goal.decreases-pairs
decreases-pairs l = length l.rest
