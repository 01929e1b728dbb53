use Rattle.std.proofs.Common.{sym}
use Rattle.cap_host.specs.Host.{entries_of}
use Rattle.cap_host.proofs.host.Host.is_captured.Goals as goal

pub returns-in-None-clause-value : goal.returns-in-None-clause-value
returns-in-None-clause-value g c = sym (c.in-None.ensures (entries_of c.args.self.now) c.args.terminal c.log.ensures c.args.hundredths)
