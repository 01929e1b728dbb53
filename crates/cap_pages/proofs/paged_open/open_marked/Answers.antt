use Rattle.std.proofs.Common.{IsOk, IsErrOf, refl}
use Rattle.cap_journal.proofs.Counting.{read_counts}
use Rattle.cap_journal.specs.declared.journal.OpenFault.TheVariants.{Disk, Memory}
use Rattle.cap_pages.proofs.paged_open.open_marked.Goals as goal

pub returns-in-Ok-clause-counts : goal.returns-in-Ok-clause-counts
returns-in-Ok-clause-counts g c =
    let found = c.read_marks-found in
    read_counts _ _ _ (g.D.Disk.counts c.args.disk.now) (g.D.Disk.counts c.settle.new.disk) (g.D.Disk.counts found.new.disk) (IsOk found.result) (IsErrOf found.result Disk) (IsErrOf found.result Memory) refl (λ h. cc) (λ h. cc) c.in-Ok.ensures.counts found.ensures.reads.counts_still found.ensures.quiet
