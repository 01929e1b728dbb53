use Rattle.std.proofs.Common.{IsOk, IsErrOf, refl}
use Rattle.cap_journal.proofs.Counting.{read_counts}
use Rattle.cap_journal.specs.declared.journal.OpenFault.TheVariants.{Disk, Memory}
use Rattle.cap_journal.proofs.settling.open_disk.Goals as goal

pub returns-in-Ok-clause-counts : goal.returns-in-Ok-clause-counts
returns-in-Ok-clause-counts g c =
    read_counts _ _ _ (g.D.Disk.counts c.args.disk.now) (g.D.Disk.counts c.settle.new.disk) (g.D.Disk.counts c.read_file.new.disk) (IsOk c.read_file.result) (IsErrOf c.read_file.result Disk) (IsErrOf c.read_file.result Memory) refl (λ h. cc) (λ h. cc) c.in-Ok.ensures.counts c.read_file.ensures.counts c.read_file.ensures.quiet
