use Rattle.std.proofs.Common.{refl}
use Rattle.cap_disk.specs.MemoryDisk.{moment_of}
use Rattle.cap_power.specs.Images.{NoOthers, left_since_now}
use Rattle.cap_terminal_side.proofs.Opening.{new_stands}
use Rattle.cap_terminal_side.proofs.side.Side.set_up.Goals as goal

pub returns-in-Ok : goal.returns-in-Ok
returns-in-Ok c =
    let journal = c.in_ok-journal.journal in
    let made = c.in_ok-journal.ensures in
    let terminal = c.in-Ok.terminal in
    let opened = c.in-Ok.ensures in
    let time = opened.images refl in
    let fewer : NoOthers journal.disk terminal.disk = λ image left. time.each image (left_since_now terminal.disk (moment_of journal.disk) image time.later left) in
    new_stands _ _ _ c.args.setup.now terminal journal.entries.items journal.disk c.new.result c.new-in-Ok.result
    opened.entries made.entries opened.has_failed fewer made.images made.counts opened.counts c.new.ensures.items c.new-in-Ok.ensures.items
