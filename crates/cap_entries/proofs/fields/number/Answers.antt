use Rattle.std.proofs.Common.{arith}
use Rattle.cap_entries.proofs.Places.{part_in}
use Rattle.cap_entries.proofs.fields.number.Goals as goal

pub returns-then-field-eq8-clause-within : goal.returns-then-field-eq8-clause-within
returns-then-field-eq8-clause-within c = part_in 8 c.args.bytes.now c.args.at c.part-field.result.now c.part-field.ensures (omega arith) c.requires.at
