use Rattle.std.proofs.Common.{◌≡◌, false, Some, None}
use Rattle.cap_disk.specs.MemoryDisk.{contents_of, told_of}
use Rattle.cap_journal.specs.File.{Has}
use Rattle.cap_power.specs.Images.{images_of}
use Rattle.cap_power.specs.Standing.{IsOnWith}
use Rattle.cap_power.specs.Fates.{Opens}
use Rattle.cap_power.proofs.Disks.{if_ok_map, shown_among, if_ok_at}
use Rattle.cap_power.proofs.Openings.{meets_on}
use Rattle.cap_power.proofs.reopening.open_whole.Goals as goal

pub on_again-requires : goal.on_again-requires
on_again-requires g c = if_ok_at c.in_ok-tried.tried c.in-Ok.end (λ j. g.T.OverDisk.has_failed j ≡ false) c.in-Ok.is c.in_ok-tried.ensures.works

pub returns-in-Ok-clause-opened : goal.returns-in-Ok-clause-opened
returns-in-Ok-clause-opened g c =
    let O = g.T.OverDisk in
    let has = Has g.E.Record.reading in
    let disk = c.args.disk in
    let fresh = c.restarted-fresh.result in
    let shown = (contents_of fresh).shown in
    let list = g.T.OverDisk.entries c.in-Ok.end in
    let found = if_ok_at c.in_ok-tried.tried c.in-Ok.end (λ j. has shown (g.T.OverDisk.entries j)) c.in-Ok.is c.in_ok-tried.ensures.entries in
    if_ok_map c.on_again.result (IsOnWith has O.entries O.disk list) (Opens has O.entries O.disk None (images_of disk))
    (λ after on. meets_on g.E.Record.reading O.entries O.disk (images_of disk) shown list after (shown_among disk fresh c.restarted-fresh.ensures) found on) c.on_again.ensures.on

pub returns-in-Ok-clause-ready : goal.returns-in-Ok-clause-ready
returns-in-Ok-clause-ready g c =
    c.on_again.ensures.ready None
    (if_ok_at c.in_ok-tried.tried c.in-Ok.end (λ j. told_of (g.T.OverDisk.disk j) ≡ Some (record { calls = 2; stop = None })) c.in-Ok.is (c.in_ok-tried.ensures.counts None c.restarted-fresh.ensures.counts))
