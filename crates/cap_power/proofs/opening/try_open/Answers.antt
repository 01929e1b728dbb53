use Rattle.std.proofs.Common.{◌≡◌, refl}
use Rattle.std.specs.Prelude.{⊤}
use Rattle.cap_disk.specs.MemoryDisk.{told_of}
use Rattle.cap_power.specs.Images.{no_others_since}
use Rattle.cap_power.proofs.Disks.{opening_told, stops_at_length, none_of}
use Rattle.cap_journal.specs.declared.disk_journal.OpenCause.TheVariants.{Disk, Memory}
use Rattle.cap_power.proofs.opening.try_open.Goals as goal

pub returns-in-Ok-clause-entries : goal.returns-in-Ok-clause-entries
returns-in-Ok-clause-entries g c = c.in-Ok.ensures.entries refl

pub returns-in-Ok-clause-works : goal.returns-in-Ok-clause-works
returns-in-Ok-clause-works g c = c.in-Ok.ensures.works

pub returns-in-Ok-clause-images : goal.returns-in-Ok-clause-images
returns-in-Ok-clause-images g c = no_others_since c.args.disk c.in-Ok.journal.disk (c.in-Ok.ensures.any_moment refl)

pub returns-in-Ok-clause-counts : goal.returns-in-Ok-clause-counts
returns-in-Ok-clause-counts g c = λ stop is. (opening_told stop (told_of c.args.disk) (told_of c.in-Ok.journal.disk) ⊤ ⊥ ⊥ is c.in-Ok.ensures.counts).opened tt

pub returns-in-Ok-clause-goes_on : goal.returns-in-Ok-clause-goes_on
returns-in-Ok-clause-goes_on g c = λ stop is within. none_of ((opening_told stop (told_of c.args.disk) (told_of c.in-Ok.journal.disk) ⊤ ⊥ ⊥ is c.in-Ok.ensures.counts).goes_on within)

pub returns-in-Disk-clause-images : goal.returns-in-Disk-clause-images
returns-in-Disk-clause-images g c = no_others_since c.args.disk c.in-Err.error.back (c.in-Err.ensures.back_any_moment refl)

pub returns-in-Disk-clause-stopped : goal.returns-in-Disk-clause-stopped
returns-in-Disk-clause-stopped g c = λ stop is.
    (opening_told stop (told_of c.args.disk) (told_of c.in-Err.error.back) ⊥ (c.in-Err.error.cause ≡ Disk) (c.in-Err.error.cause ≡ Memory) is c.in-Err.ensures.back_counts).stopped c.in-Disk.is

pub returns-in-Disk-clause-one_left : goal.returns-in-Disk-clause-one_left
returns-in-Disk-clause-one_left g c = λ is image left. c.in-Err.ensures.one_left refl (stops_at_length (told_of c.args.disk) is) c.in-Disk.is image left
