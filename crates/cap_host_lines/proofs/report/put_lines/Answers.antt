use Rattle.std.proofs.Common.{rules, append_assoc}
use Rattle.cap_host_lines.proofs.report.put_lines.Goals as goal

pub returns : goal.returns
returns g c = search (rules, append_assoc)
