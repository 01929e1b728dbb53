use Rattle.cap_power.specs.Images.{images_of, NoOthers}
use Rattle.cap_power.proofs.Disks.{no_others_armed, match_err_at}
use Rattle.cap_power.proofs.Openings.{meets_still, ready_off}
use Rattle.cap_power.proofs.reopening.fail_at_sync.Goals as goal

pub returns-clause-opened : goal.returns-clause-opened
returns-clause-opened g c =
    let O = g.T.OverDisk in
    let disk = c.args.disk in
    let armed = c.arm_fail.new.self in
    let none = match_err_at c.in_ok-tried.tried c.in-Err.back (λ j. NoOthers armed j.disk) (λ back. NoOthers armed back) c.in-Err.is c.in_ok-tried.ensures.images in
    meets_still g.E.Record.reading O.entries O.disk (images_of disk) c.in-Err.back c.failed_off.result
    (no_others_armed disk armed c.in-Err.back c.arm_fail.ensures.history none) c.failed_off.ensures.power c.failed_off.ensures.outcome

pub returns-clause-ready : goal.returns-clause-ready
returns-clause-ready g c = ready_off g.T.OverDisk.has_failed g.T.OverDisk.disk 2 c.failed_off.result.power c.in-Err.back c.failed_off.ensures.power
