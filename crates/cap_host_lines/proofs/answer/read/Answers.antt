use Rattle.cap_host_lines.proofs.Reading.{is_read}
use Rattle.cap_host_lines.proofs.answer.read.Goals as goal

pub returns-in-Ok-clause-answer : goal.returns-in-Ok-clause-answer
returns-in-Ok-clause-answer c = is_read c.made.result c.args.bytes.now c.in-Ok.message c.in-Ok.ensures.read c.reading_is_exact.ensures.one c.made.ensures.answer
