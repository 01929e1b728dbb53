use Rattle.std.proofs.Common.{subst}
use Rattle.std.specs.Prelude.{Result}
use Rattle.cap_answering.specs.declared.fault.HostFault.{HostFault}
use Rattle.cap_ledger.specs.Ledger.{OnlyReads}
use Rattle.cap_host.proofs.host.Host.idle.Goals as goal

pub returns : goal.returns
returns g c = subst (λ (r : Result (Unit {0}) HostFault). OnlyReads c.args.self.now.ledger c.args.self.now.ledger r) c.give.ensures.value c.give.ensures.reads
