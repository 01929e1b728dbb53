use Rattle.std.proofs.Common.{◌≡◌, false, Some, sym, subst}
use Rattle.std.specs.Prelude.{IfOk}
use Rattle.cap_disk.specs.MemoryDisk.{told_of}
use Rattle.cap_host.specs.Host.{journal_of}
use Rattle.cap_power.specs.Images.{NoOthers}
use Rattle.cap_power.proofs.host.HostDiskJournalHostEntryMemoryDiskOverDiskHostEntry.arm.Goals as goal

pub host_armed-requires : goal.host_armed-requires
host_armed-requires c = subst (λ j. j.failed ≡ false) (sym c.into_journal.ensures) (c.args.self.ledger.works c.requires)

pub returns-clause-entries : goal.returns-clause-entries
returns-clause-entries c = subst (λ j. IfOk c.host_armed.result (λ end. (journal_of end).entries.items ≡ j.entries.items)) c.into_journal.ensures c.host_armed.ensures.entries

pub returns-clause-works : goal.returns-clause-works
returns-clause-works c = c.host_armed.ensures.works

pub returns-clause-images : goal.returns-clause-images
returns-clause-images c = subst (λ j. IfOk c.host_armed.result (λ end. NoOthers j.disk (journal_of end).disk)) c.into_journal.ensures c.host_armed.ensures.images

pub returns-clause-counts : goal.returns-clause-counts
returns-clause-counts c = λ told is.
    c.host_armed.ensures.counts told (subst (λ j. told_of j.disk ≡ Some told) (sym c.into_journal.ensures) is)
