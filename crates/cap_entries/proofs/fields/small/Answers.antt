use Rattle.std.proofs.Common.{arith}
use Rattle.cap_entries.proofs.Places.{small_there}
use Rattle.cap_entries.proofs.fields.small.Goals as goal

pub returns-then-at-bytes-clause-value : goal.returns-then-at-bytes-clause-value
returns-then-at-bytes-clause-value c = small_there c.args.bytes.now c.args.at (omega arith) (omega (arith, c.type_inv.bytes c.args.at))
