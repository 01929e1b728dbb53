use Rattle.std.proofs.Common.{[], arith}
use Rattle.cap_text.proofs.Answering.{ok_fits}
use Rattle.cap_text.proofs.document.read_document.Goals as goal

pub returns-in-Ok-clause-read : goal.returns-in-Ok-clause-read
returns-in-Ok-clause-read c = c.finish.ensures.read c.args.bytes.now (c.in-Ok.ensures.read [] c.new-reader.ensures (omega arith))

pub returns-in-Ok-clause-fits : goal.returns-in-Ok-clause-fits
returns-in-Ok-clause-fits c = ok_fits c.args.bytes.now c.finish.result (returns-in-Ok-clause-read c)
