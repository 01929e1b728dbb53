use Rattle.std.proofs.Common.{refl}
use Rattle.cap_power.proofs.Disks.{is_restarted}
use Rattle.cap_power.proofs.reopening.cut_off.Goals as goal

pub returns : goal.returns
returns g c =
    let r = is_restarted c.args.disk c.restart.result c.restart.ensures.image c.restart.ensures.left c.restart.ensures.counts in
    record { left = c.restart.result; that = r.that; power_is = refl; is_old = r.is_old; one = r.one; outcome_is = refl }
