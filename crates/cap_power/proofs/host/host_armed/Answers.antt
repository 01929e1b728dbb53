use Rattle.std.proofs.Common.{◌≡◌, Some, ◌∙◌}
use Rattle.cap_disk.specs.Disk.{Counts, StaysCounted}
use Rattle.cap_disk.specs.Switch.{stop_of}
use Rattle.cap_disk.specs.MemoryDisk.{told_of}
use Rattle.cap_host.specs.Host.{journal_of}
use Rattle.cap_power.specs.Images.{NoOthers}
use Rattle.cap_power.proofs.Disks.{if_ok_map, stays_told}
use Rattle.cap_power.proofs.host.host_armed.Goals as goal

pub host_over-requires : goal.host_over-requires
host_over-requires c = c.arm_journal.ensures.has_failed ∙ c.requires

pub returns-clause-entries : goal.returns-clause-entries
returns-clause-entries c =
    if_ok_map c.host_over.result (λ end. (journal_of end).entries.items ≡ c.arm_journal.result.entries.items) (λ end. (journal_of end).entries.items ≡ c.args.journal.entries.items)
    (λ end is. is ∙ c.arm_journal.ensures.entries) c.host_over.ensures.entries

pub returns-clause-works : goal.returns-clause-works
returns-clause-works c = c.host_over.ensures.works

pub returns-clause-images : goal.returns-clause-images
returns-clause-images c =
    if_ok_map c.host_over.result (λ end. NoOthers c.arm_journal.result.disk (journal_of end).disk) (λ end. NoOthers c.args.journal.disk (journal_of end).disk)
    (λ end none image left. c.arm_journal.ensures.images image (none image left)) c.host_over.ensures.images

pub returns-clause-counts : goal.returns-clause-counts
returns-clause-counts c = λ told is.
    let now : Counts = record { calls = told.calls; stop = stop_of told.calls c.args.call } in
    if_ok_map c.host_over.result (λ end. StaysCounted (told_of c.arm_journal.result.disk) (told_of (journal_of end).disk)) (λ end. told_of (journal_of end).disk ≡ Some now)
    (λ end stays. stays_told now (told_of c.arm_journal.result.disk) (told_of (journal_of end).disk) (c.arm_journal.ensures.counts told is) stays) c.host_over.ensures.counts
