use Rattle.std.proofs.Common.{◌≡◌, false, Some, ◌∙◌}
use Rattle.cap_disk.specs.MemoryDisk.{contents_of, told_of}
use Rattle.cap_journal.specs.File.{Has}
use Rattle.cap_journal.specs.Told.{StopsWithin}
use Rattle.cap_schedule.specs.declared.outcome.Outcome.TheVariants.{WasCut}
use Rattle.cap_schedule.specs.declared.schedule.Prefix.TheVariants.{Cut}
use Rattle.cap_power.specs.Images.{images_of, NoOthers}
use Rattle.cap_power.specs.Standing.{IsOnWith}
use Rattle.cap_power.specs.Fates.{Opens}
use Rattle.cap_power.proofs.Numbers.{told_anew, is_past, is_second}
use Rattle.cap_power.proofs.Disks.{if_ok_map, shown_armed, fewer_armed, if_ok_at, if_err_at, match_err_at}
use Rattle.cap_power.proofs.Openings.{meets_on, meets_off, opens_past_cut, opens_second_cut, ready_off}
use Rattle.cap_power.proofs.reopening.open_to_cut.Goals as goal

pub on_again-requires : goal.on_again-requires
on_again-requires g c = if_ok_at c.in_ok-tried.tried c.in-Ok.end (λ j. g.T.OverDisk.has_failed j ≡ false) c.in-Ok.is c.in_ok-tried.ensures.works

pub returns-in-Ok-clause-opened : goal.returns-in-Ok-clause-opened
returns-in-Ok-clause-opened g c =
    let O = g.T.OverDisk in
    let has = Has g.E.Record.reading in
    let disk = c.args.disk in
    let fresh = c.restarted-fresh.result in
    let armed = c.arm_cut.new.self in
    let told = c.arm_cut.ensures.counts ∙ told_anew fresh c.args.call c.restarted-fresh.ensures.counts c.requires in
    let shown = (contents_of armed).shown in
    let list = g.T.OverDisk.entries c.in-Ok.end in
    let found = if_ok_at c.in_ok-tried.tried c.in-Ok.end (λ j. has shown (g.T.OverDisk.entries j)) c.in-Ok.is c.in_ok-tried.ensures.entries in
    let past = is_past c.args.call c.requires (if_ok_at c.in_ok-tried.tried c.in-Ok.end (λ j. StopsWithin 2 (record { calls = 0; stop = Some c.args.call }) → ⊥) c.in-Ok.is (c.in_ok-tried.ensures.goes_on (Some c.args.call) told)) in
    if_ok_map c.on_again.result (IsOnWith has O.entries O.disk list) (Opens has O.entries O.disk (Some (Cut c.args.call c.args.fill)) (images_of disk))
    (λ after on. opens_past_cut g.E.Record.reading O.entries O.disk (images_of disk) after c.args.call c.args.fill past
    (meets_on g.E.Record.reading O.entries O.disk (images_of disk) shown list after (shown_armed disk fresh armed c.restarted-fresh.ensures c.arm_cut.ensures.history) found on)) c.on_again.ensures.on

pub returns-in-Ok-clause-ready : goal.returns-in-Ok-clause-ready
returns-in-Ok-clause-ready g c =
    let told = c.arm_cut.ensures.counts ∙ told_anew c.restarted-fresh.result c.args.call c.restarted-fresh.ensures.counts c.requires in
    c.on_again.ensures.ready (Some c.args.call)
    (if_ok_at c.in_ok-tried.tried c.in-Ok.end (λ j. told_of (g.T.OverDisk.disk j) ≡ Some (record { calls = 2; stop = Some c.args.call })) c.in-Ok.is (c.in_ok-tried.ensures.counts (Some c.args.call) told))

pub returns-in-Err-clause-opened : goal.returns-in-Err-clause-opened
returns-in-Err-clause-opened g c =
    let O = g.T.OverDisk in
    let disk = c.args.disk in
    let fresh = c.restarted-fresh.result in
    let armed = c.arm_cut.new.self in
    let told = c.arm_cut.ensures.counts ∙ told_anew fresh c.args.call c.restarted-fresh.ensures.counts c.requires in
    let within = if_err_at c.in_ok-tried.tried c.in-Err.back (λ b. StopsWithin 2 (record { calls = 0; stop = Some c.args.call })) c.in-Err.is (c.in_ok-tried.ensures.stopped (Some c.args.call) told) in
    let second = is_second c.args.call c.requires within in
    let none = match_err_at c.in_ok-tried.tried c.in-Err.back (λ j. NoOthers armed (g.T.OverDisk.disk j)) (λ back. NoOthers armed back) c.in-Err.is c.in_ok-tried.ensures.images in
    opens_second_cut g.E.Record.reading O.entries O.disk (images_of disk) c.cut_off.result c.args.call c.args.fill second
    (meets_off g.E.Record.reading O.entries O.disk (images_of disk) c.in-Err.back WasCut c.cut_off.result
    (fewer_armed disk fresh armed c.in-Err.back c.restarted-fresh.ensures c.arm_cut.ensures.history none) c.cut_off.ensures)

pub returns-in-Err-clause-ready : goal.returns-in-Err-clause-ready
returns-in-Err-clause-ready g c = ready_off g.T.OverDisk.has_failed g.T.OverDisk.disk 2 c.cut_off.result.power c.cut_off.ensures.left c.cut_off.ensures.power_is
