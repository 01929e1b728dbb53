use Rattle.cap_entries.specs.Log.{log}
use Rattle.cap_host.specs.Host.{entries_of}
use Rattle.cap_host.proofs.Lines.{told_past}
use Rattle.cap_host.proofs.host.Host.capture_line.Goals as goal

pub returns-clause-past : goal.returns-clause-past
returns-clause-past g c = told_past (log (entries_of c.args.self.now) c.args.terminal) c.args.k c.line_at.result c.line_at.ensures.line
