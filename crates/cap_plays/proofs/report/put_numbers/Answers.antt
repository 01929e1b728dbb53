use Rattle.std.proofs.Common.{rules, append_assoc}
use Rattle.cap_plays.proofs.report.put_numbers.Goals as goal

pub returns : goal.returns
returns c = search (rules, append_assoc)
