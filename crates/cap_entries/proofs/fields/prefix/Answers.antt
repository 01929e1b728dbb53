use Rattle.std.proofs.Common.{arith}
use Rattle.cap_entries.proofs.Places.{part_in}
use Rattle.cap_entries.proofs.fields.prefix.Goals as goal

pub returns-then-are_digits-clause-within : goal.returns-then-are_digits-clause-within
returns-then-are_digits-clause-within c = part_in 6 c.args.bytes.now c.args.at c.part-field.result.now c.part-field.ensures (omega arith) c.requires.at
