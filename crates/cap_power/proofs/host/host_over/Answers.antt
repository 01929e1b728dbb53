use Rattle.std.proofs.Common.{refl}
use Rattle.cap_disk.specs.MemoryDisk.{moment_of}
use Rattle.cap_host.specs.Host.{journal_of}
use Rattle.cap_power.specs.Images.{left_since_now}
use Rattle.cap_power.proofs.host.host_over.Goals as goal

pub returns-in-Ok-clause-images : goal.returns-in-Ok-clause-images
returns-in-Ok-clause-images c = λ image left.
    let time = c.in-Ok.ensures.images refl in
    time.each image (left_since_now (journal_of c.in-Ok.host).disk (moment_of c.args.journal.disk) image time.later left)
