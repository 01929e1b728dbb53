use Rattle.cap_disk.proofs.Survivals.{restart_left}
use Rattle.cap_disk.proofs.memory.MemoryDisk.restart.Goals as goal

pub returns-clause-left : goal.returns-clause-left
returns-clause-left c =
    let r = c.args.self.recorded in
    restart_left c.args.self.switch.cut r.first.items r.bytes.items r.log.items
