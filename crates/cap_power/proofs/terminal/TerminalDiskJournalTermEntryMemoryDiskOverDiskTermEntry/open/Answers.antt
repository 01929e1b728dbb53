use Rattle.std.proofs.Common.{◌≡◌, ℕ, List, false, Some}
use Rattle.cap_disk.specs.Disk.{Counts}
use Rattle.cap_disk.specs.MemoryDisk.{contents_of, told_of}
use Rattle.cap_journal.specs.Told.{StopsWithin}
use Rattle.cap_power.specs.Images.{images_of, NoOthers}
use Rattle.cap_power.proofs.Disks.{stays_told, if_ok_at, if_err_at, match_err_at}
use Rattle.cap_power.proofs.terminal.TerminalDiskJournalTermEntryMemoryDiskOverDiskTermEntry.open.Goals as goal

pub terminal_over-requires : goal.terminal_over-requires
terminal_over-requires c = if_ok_at c.in_ok-tried.tried c.in-Ok.journal (λ j. j.failed ≡ false) c.in-Ok.is c.in_ok-tried.ensures.works

pub returns-in_ok-terminal-in-Ok-clause-counts : goal.returns-in_ok-terminal-in-Ok-clause-counts
returns-in_ok-terminal-in-Ok-clause-counts c = λ stop is.
    let now : Counts = record { calls = 2; stop = stop } in
    stays_told now (told_of c.in-Ok.journal.disk) (told_of c.in_ok-terminal-in-Ok.terminal.disk)
    (if_ok_at c.in_ok-tried.tried c.in-Ok.journal (λ j. told_of j.disk ≡ Some now) c.in-Ok.is (c.in_ok-tried.ensures.counts stop is)) c.in_ok-terminal-in-Ok.ensures.counts

pub returns-in_ok-terminal-in-Ok-clause-goes_on : goal.returns-in_ok-terminal-in-Ok-clause-goes_on
returns-in_ok-terminal-in-Ok-clause-goes_on c = λ stop is.
    if_ok_at c.in_ok-tried.tried c.in-Ok.journal (λ j. StopsWithin 2 (record { calls = 0; stop = stop }) → ⊥) c.in-Ok.is (c.in_ok-tried.ensures.goes_on stop is)

pub returns-in-Err-clause-images : goal.returns-in-Err-clause-images
returns-in-Err-clause-images c = match_err_at c.in_ok-tried.tried c.in-Err.back (λ j. NoOthers c.args.file j.disk) (λ back. NoOthers c.args.file back) c.in-Err.is c.in_ok-tried.ensures.images

pub returns-in-Err-clause-stopped : goal.returns-in-Err-clause-stopped
returns-in-Err-clause-stopped c = λ stop is.
    if_err_at c.in_ok-tried.tried c.in-Err.back (λ back. StopsWithin 2 (record { calls = 0; stop = stop })) c.in-Err.is (c.in_ok-tried.ensures.stopped stop is)

pub returns-in-Err-clause-one_left : goal.returns-in-Err-clause-one_left
returns-in-Err-clause-one_left c = λ is.
    if_err_at c.in_ok-tried.tried c.in-Err.back (λ back. (image : List ℕ) → images_of back image → image ≡ (contents_of c.args.file).shown) c.in-Err.is (c.in_ok-tried.ensures.one_left is)
