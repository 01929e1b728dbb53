use Rattle.std.proofs.Common.{sym, subst}
use Rattle.cap_disk.specs.declared.memory.MemoryDisk.{MemoryDisk}
use Rattle.cap_schedule.specs.declared.outcome.Outcome.TheVariants.{WasCut}
use Rattle.cap_power.specs.Images.{images_of, NoOthers, no_others_restarted}
use Rattle.cap_power.proofs.Disks.{match_ok_at}
use Rattle.cap_power.proofs.Openings.{meets_off, ready_off}
use Rattle.cap_power.proofs.reopening.open_to_cut_after.Goals as goal

pub returns-in-Ok-clause-opened : goal.returns-in-Ok-clause-opened
returns-in-Ok-clause-opened g c =
    let O = g.T.OverDisk in
    let disk = c.args.disk in
    let fresh = c.restarted-fresh.result in
    let none = match_ok_at c.in_ok-tried.tried c.in-Ok.journal (λ j. NoOthers fresh j.disk) (λ back. NoOthers fresh back) c.in-Ok.is c.in_ok-tried.ensures.images in
    let same = subst (λ (d : MemoryDisk). NoOthers fresh d) (sym c.into_disk.ensures) none in
    meets_off g.E.Record.reading O.entries O.disk (images_of disk) c.into_disk.result WasCut c.cut_off.result
    (λ image left. no_others_restarted disk fresh c.restarted-fresh.ensures image (same image left)) c.cut_off.ensures

pub returns-in-Ok-clause-ready : goal.returns-in-Ok-clause-ready
returns-in-Ok-clause-ready g c = ready_off g.T.OverDisk.has_failed g.T.OverDisk.disk 2 c.cut_off.result.power c.cut_off.ensures.left c.cut_off.ensures.power_is
