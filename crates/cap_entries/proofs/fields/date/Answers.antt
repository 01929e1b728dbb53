use Rattle.std.proofs.Common.{◌∙◌}
use Rattle.cap_entries.proofs.Places.{date_some, date_none}
use Rattle.cap_entries.proofs.fields.date.Goals as goal

pub returns-in-Some-clause-value : goal.returns-in-Some-clause-value
returns-in-Some-clause-value c = c.dated.ensures.value ∙ date_some c.args.bytes.now c.args.at c.in_ok-field.end c.in_ok-field.field.now c.in-Some.leaf c.in_ok-field.ensures.value c.in-Some.ensures.value

pub returns-in-None-clause-value : goal.returns-in-None-clause-value
returns-in-None-clause-value c = date_none c.args.bytes.now c.args.at c.in_ok-field.end c.in_ok-field.field.now c.in_ok-field.ensures.value c.in-None.ensures.value
