use Rattle.std.proofs.Common.{refl, [], ◌∷◌, ◌∙◌, ap}
use Rattle.cap_disk.specs.MemoryDisk.{moment_of}
use Rattle.cap_entries.specs.Settings.{HostSettings}
use Rattle.cap_entries.specs.declared.host.HostEntry.TheVariants.{Setup}
use Rattle.cap_host.specs.Host.{journal_of}
use Rattle.cap_power.specs.Images.{NoOthers, left_since_now}
use Rattle.cap_power.specs.contracts.host.HostDiskJournalHostEntryMemoryDiskOverDiskHostEntry.TheImpl.{ghosts as ends}
use Rattle.cap_host_side.proofs.Begun.{new_stands}
use Rattle.cap_host_side.proofs.starting.set_up.Goals as goal

pub returns-in-Ok-clause-works : goal.returns-in-Ok-clause-works
returns-in-Ok-clause-works c = c.in-Ok.ensures.works

pub returns-in-Ok-clause-stands : goal.returns-in-Ok-clause-stands
returns-in-Ok-clause-stands c =
    let journal = c.in_ok-journal.journal in
    let made = c.in_ok-journal.ensures in
    let host = c.in-Ok.host in
    let opened = c.in-Ok.ensures in
    let time = opened.images refl in
    let fewer : NoOthers journal.disk (journal_of host).disk = λ image left. time.each image (left_since_now (journal_of host).disk (moment_of journal.disk) image time.later left) in
    new_stands ends.entries ends.disk ends.has_failed c.args.setup.now host journal.entries.items journal.disk
    opened.entries (made.entries ∙ ap (λ (s : HostSettings). Setup s ∷ []) c.in_ok-copy.ensures.cases) opened.works fewer made.images made.counts opened.counts
