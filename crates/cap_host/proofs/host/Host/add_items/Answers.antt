use Rattle.std.proofs.Common.{map}
use Rattle.cap_entries.specs.declared.host.HostEntry.TheVariants.{Took}
use Rattle.cap_host.specs.Host.{fault_of}
use Rattle.cap_host.proofs.Composed.{reads_adds}
use Rattle.cap_host.proofs.host.Host.add_items.Goals as goal

pub returns-clause-adds : goal.returns-clause-adds
returns-clause-adds g c =
    reads_adds c.args.self.now c.reserve.new.self c.add_group.new.self (map (Took c.args.terminal) c.args.items.now) (fault_of c.add_group.result) c.in_ok-reserve.ensures.reads c.add_group.ensures.adds
