use Rattle.std.proofs.Common.{subst}
use Rattle.cap_disk.specs.declared.memory.MemoryDisk.{MemoryDisk}
use Rattle.cap_power.specs.Images.{IsRestarted}
use Rattle.cap_power.proofs.Disks.{is_restarted, left_by_cut, left_by_fault}
use Rattle.cap_power.proofs.settling.disk_of.Goals as goal

pub returns-then-cut : goal.returns-then-cut
returns-then-cut g c =
    let same = c.into_disk-disk.ensures in
    let r = is_restarted c.into_disk-disk.result c.restart.result c.restart.ensures.image c.restart.ensures.left c.restart.ensures.counts in
    left_by_cut c.args.cut (g.T.OverDisk.disk c.args.end) c.restart.result c.if-cut.true (subst (λ (d : MemoryDisk). IsRestarted d c.restart.result) same r)

pub returns-else-cut : goal.returns-else-cut
returns-else-cut g c = left_by_fault c.args.cut (g.T.OverDisk.disk c.args.end) c.into_disk-disk.result c.if-cut.false (c.into_disk-disk.ensures)
