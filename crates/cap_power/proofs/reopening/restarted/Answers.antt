use Rattle.cap_power.proofs.Disks.{is_restarted}
use Rattle.cap_power.proofs.reopening.restarted.Goals as goal

pub returns : goal.returns
returns c = is_restarted c.args.disk c.restart.result c.restart.ensures.image c.restart.ensures.left c.restart.ensures.counts
