use Rattle.std.proofs.Common.{◌≡◌, ℕ, false, List, Some, ◌∙◌, ap}
use Rattle.cap_disk.specs.Disk.{Counts}
use Rattle.cap_disk.specs.MemoryDisk.{contents_of, told_of}
use Rattle.cap_journal.specs.File.{Has}
use Rattle.cap_journal.specs.Told.{StopsWithin}
use Rattle.cap_schedule.specs.declared.outcome.Outcome.TheVariants.{DiskFailed}
use Rattle.cap_schedule.specs.declared.schedule.Prefix.TheVariants.{Fail}
use Rattle.cap_power.specs.Images.{images_of, no_others_by_history, no_others_restarted}
use Rattle.cap_power.specs.Standing.{IsOnWith}
use Rattle.cap_power.specs.Fates.{Opens}
use Rattle.cap_power.proofs.Numbers.{told_anew, is_past, is_second}
use Rattle.cap_power.proofs.Disks.{if_ok_map, shows_one, shown_armed, if_ok_at, if_err_at}
use Rattle.cap_power.proofs.Openings.{meets_on, meets_off, opens_past_fail, opens_second_fail, ready_off}
use Rattle.cap_power.proofs.reopening.open_to_fail.Goals as goal

pub on_again-requires : goal.on_again-requires
on_again-requires g c = if_ok_at c.in_ok-tried.tried c.in-Ok.end (λ j. g.T.OverDisk.has_failed j ≡ false) c.in-Ok.is c.in_ok-tried.ensures.works

pub returns-in-Ok-clause-opened : goal.returns-in-Ok-clause-opened
returns-in-Ok-clause-opened g c =
    let O = g.T.OverDisk in
    let has = Has g.E.Record.reading in
    let disk = c.args.disk in
    let fresh = c.restarted-fresh.result in
    let armed = c.arm_fail.new.self in
    let told = c.arm_fail.ensures.counts ∙ told_anew fresh c.args.call c.restarted-fresh.ensures.counts c.requires in
    let shown = (contents_of armed).shown in
    let list = g.T.OverDisk.entries c.in-Ok.end in
    let found = if_ok_at c.in_ok-tried.tried c.in-Ok.end (λ j. has shown (g.T.OverDisk.entries j)) c.in-Ok.is c.in_ok-tried.ensures.entries in
    let past = is_past c.args.call c.requires (if_ok_at c.in_ok-tried.tried c.in-Ok.end (λ j. StopsWithin 2 (record { calls = 0; stop = Some c.args.call }) → ⊥) c.in-Ok.is (c.in_ok-tried.ensures.goes_on (Some c.args.call) told)) in
    if_ok_map c.on_again.result (IsOnWith has O.entries O.disk list) (Opens has O.entries O.disk (Some (Fail c.args.call c.args.fill)) (images_of disk))
    (λ after on. opens_past_fail g.E.Record.reading O.entries O.disk (images_of disk) after c.args.call c.args.fill past
    (meets_on g.E.Record.reading O.entries O.disk (images_of disk) shown list after (shown_armed disk fresh armed c.restarted-fresh.ensures c.arm_fail.ensures.history) found on)) c.on_again.ensures.on

pub returns-in-Ok-clause-ready : goal.returns-in-Ok-clause-ready
returns-in-Ok-clause-ready g c =
    let told = c.arm_fail.ensures.counts ∙ told_anew c.restarted-fresh.result c.args.call c.restarted-fresh.ensures.counts c.requires in
    c.on_again.ensures.ready (Some c.args.call)
    (if_ok_at c.in_ok-tried.tried c.in-Ok.end (λ j. told_of (g.T.OverDisk.disk j) ≡ Some (record { calls = 2; stop = Some c.args.call })) c.in-Ok.is (c.in_ok-tried.ensures.counts (Some c.args.call) told))

pub returns-in-Err-clause-opened : goal.returns-in-Err-clause-opened
returns-in-Err-clause-opened g c =
    let O = g.T.OverDisk in
    let disk = c.args.disk in
    let fresh = c.restarted-fresh.result in
    let armed = c.arm_fail.new.self in
    let told = c.arm_fail.ensures.counts ∙ told_anew fresh c.args.call c.restarted-fresh.ensures.counts c.requires in
    let within = if_err_at c.in_ok-tried.tried c.in-Err.back (λ b. StopsWithin 2 (record { calls = 0; stop = Some c.args.call })) c.in-Err.is (c.in_ok-tried.ensures.stopped (Some c.args.call) told) in
    let second = is_second c.args.call c.requires within in
    let told_two = told ∙ ap (λ (n : ℕ). let x : Counts = record { calls = 0; stop = Some n } in Some x) second in
    let one = if_err_at c.in_ok-tried.tried c.in-Err.back (λ b. (image : List ℕ) → images_of b image → image ≡ (contents_of armed).shown) c.in-Err.is (c.in_ok-tried.ensures.one_left told_two) in
    opens_second_fail g.E.Record.reading O.entries O.disk (images_of disk) c.failed_off.result c.args.call c.args.fill second
    (meets_off g.E.Record.reading O.entries O.disk (images_of disk) armed DiskFailed c.failed_off.result
    (λ image left. no_others_restarted disk fresh c.restarted-fresh.ensures image (no_others_by_history fresh armed c.arm_fail.ensures.history image left))
    (record { left = c.in-Err.back; that = (contents_of armed).shown; power_is = c.failed_off.ensures.power; is_old = shows_one armed; one = one; outcome_is = c.failed_off.ensures.outcome }))

pub returns-in-Err-clause-ready : goal.returns-in-Err-clause-ready
returns-in-Err-clause-ready g c = ready_off g.T.OverDisk.has_failed g.T.OverDisk.disk 2 c.failed_off.result.power c.in-Err.back c.failed_off.ensures.power
