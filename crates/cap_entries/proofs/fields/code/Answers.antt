use Rattle.cap_entries.proofs.Places.{code_some, code_in}
use Rattle.cap_entries.proofs.fields.code.Goals as goal

pub returns-in-Some-clause-value : goal.returns-in-Some-clause-value
returns-in-Some-clause-value c = code_some c.args.bytes.now c.args.at c.part-field.result.now c.in-Some.code c.part-field.ensures c.in-Some.ensures

pub returns-in-Some-clause-within : goal.returns-in-Some-clause-within
returns-in-Some-clause-within c = code_in c.args.bytes.now c.args.at c.part-field.result.now c.in-Some.code c.part-field.ensures c.in-Some.ensures c.requires.at
