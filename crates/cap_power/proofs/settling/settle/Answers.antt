use Rattle.std.proofs.Common.{◌≡◌, false, length, refl}
use Rattle.std.specs.Prelude.{IfOk}
use Rattle.cap_journal.specs.File.{Has}
use Rattle.cap_schedule.specs.declared.outcome.Outcome.TheVariants.{WasCut}
use Rattle.cap_plays.specs.Plays.{no_doubt}
use Rattle.cap_power.specs.Standing.{Stands}
use Rattle.cap_power.proofs.Disks.{on_ok_of, on_ok_at, on_ok_err, if_ok_err, if_ok_from, ok_not_err}
use Rattle.cap_power.proofs.Openings.{ready_off}
use Rattle.cap_power.proofs.settling.settle.Goals as goal

pub settle_done-requires : goal.settle_done-requires
settle_done-requires g c = on_ok_at c.args.said c.in-Ok.outcome (g.T.OverDisk.has_failed c.args.end ≡ false) c.in-Ok.is c.requires

pub returns-in-Ok-clause-stays : goal.returns-in-Ok-clause-stays
returns-in-Ok-clause-stays g c = λ uncut settled tried is_on doubt stands.
    let O = g.T.OverDisk in
    on_ok_of c.args.said (IfOk c.settle_done.result (λ after. Stands (Has g.E.Record.reading) O.entries O.disk after.power settled tried is_on doubt)) (c.settle_done.ensures.stays uncut settled tried is_on doubt stands)

pub returns-in-Ok-clause-outcome : goal.returns-in-Ok-clause-outcome
returns-in-Ok-clause-outcome g c = λ uncut. if_ok_from c.args.said c.in-Ok.outcome (λ outcome. IfOk c.settle_done.result (λ after. after.outcome ≡ outcome)) c.in-Ok.is (c.settle_done.ensures.outcome uncut)

pub returns-in-Ok-clause-cut : goal.returns-in-Ok-clause-cut
returns-in-Ok-clause-cut g c = λ cut settled added is.
    let O = g.T.OverDisk in
    on_ok_of c.args.said (IfOk c.settle_done.result (λ after. Stands (Has g.E.Record.reading) O.entries O.disk after.power settled added false (no_doubt (length added)))) (c.settle_done.ensures.cut cut settled added is)

pub returns-in-Ok-clause-was_cut : goal.returns-in-Ok-clause-was_cut
returns-in-Ok-clause-was_cut g c = λ cut. on_ok_of c.args.said (IfOk c.settle_done.result (λ after. after.outcome ≡ WasCut)) (c.settle_done.ensures.was_cut cut)

pub returns-in-Ok-clause-ready : goal.returns-in-Ok-clause-ready
returns-in-Ok-clause-ready g c = c.settle_done.ensures.ready

pub returns-in-Ok-clause-broken : goal.returns-in-Ok-clause-broken
returns-in-Ok-clause-broken g c = λ entries settled tried is_on doubt stands is. ok_not_err c.args.said c.in-Ok.outcome _ c.in-Ok.is is

pub returns-in-Ok-clause-left : goal.returns-in-Ok-clause-left
returns-in-Ok-clause-left g c = λ is. ok_not_err c.args.said c.in-Ok.outcome _ c.in-Ok.is is

pub returns-in-Ok-clause-fault : goal.returns-in-Ok-clause-fault
returns-in-Ok-clause-fault g c = λ is. ok_not_err c.args.said c.in-Ok.outcome _ c.in-Ok.is is

pub returns-in-Ok-clause-no_memory : goal.returns-in-Ok-clause-no_memory
returns-in-Ok-clause-no_memory g c = λ is. ok_not_err c.args.said c.in-Ok.outcome _ c.in-Ok.is is

pub returns-in-Ok-clause-memory : goal.returns-in-Ok-clause-memory
returns-in-Ok-clause-memory g c = λ is. ok_not_err c.args.said c.in-Ok.outcome _ c.in-Ok.is is

pub returns-in-Err-Disk-clause-stays : goal.returns-in-Err-Disk-clause-stays
returns-in-Err-Disk-clause-stays g c = λ uncut settled tried is_on doubt stands. on_ok_err c.args.said c.in-Err-Disk.field-0 _ c.in-Err-Disk.is

pub returns-in-Err-Disk-clause-outcome : goal.returns-in-Err-Disk-clause-outcome
returns-in-Err-Disk-clause-outcome g c = λ uncut. if_ok_err c.args.said c.in-Err-Disk.field-0 _ c.in-Err-Disk.is

pub returns-in-Err-Disk-clause-cut : goal.returns-in-Err-Disk-clause-cut
returns-in-Err-Disk-clause-cut g c = λ cut settled added is. on_ok_err c.args.said c.in-Err-Disk.field-0 _ c.in-Err-Disk.is

pub returns-in-Err-Disk-clause-was_cut : goal.returns-in-Err-Disk-clause-was_cut
returns-in-Err-Disk-clause-was_cut g c = λ cut. on_ok_err c.args.said c.in-Err-Disk.field-0 _ c.in-Err-Disk.is

pub returns-in-Err-Disk-clause-ready : goal.returns-in-Err-Disk-clause-ready
returns-in-Err-Disk-clause-ready g c = λ calls stop is unarmed.
    ready_off g.T.OverDisk.has_failed g.T.OverDisk.disk calls c.settle_broken.result.power c.settle_broken.ensures.left.0 c.settle_broken.ensures.left.1

pub returns-in-Err-Disk-clause-broken : goal.returns-in-Err-Disk-clause-broken
returns-in-Err-Disk-clause-broken g c = λ entries settled tried is_on doubt stands is. c.settle_broken.ensures.stays entries settled tried is_on doubt stands

pub returns-in-Err-Disk-clause-left : goal.returns-in-Err-Disk-clause-left
returns-in-Err-Disk-clause-left g c = λ is. c.settle_broken.ensures.left

pub returns-in-Err-Disk-clause-fault : goal.returns-in-Err-Disk-clause-fault
returns-in-Err-Disk-clause-fault g c = λ is. c.settle_broken.ensures.outcome

pub returns-in-Err-Disk-clause-no_memory : goal.returns-in-Err-Disk-clause-no_memory
returns-in-Err-Disk-clause-no_memory g c = λ is. refl
