use Rattle.std.proofs.Common.{refl}
use Rattle.cap_disk.specs.MemoryDisk.{contents_of}
use Rattle.cap_journal.specs.Kept.{kept_by}
use Rattle.cap_power.proofs.set_up.images_have.Goals as goal

pub returns : goal.returns
returns g c = λ image left.
    let journal = c.args.journal.now in
    kept_by g.E.Record.reading (contents_of journal.disk) journal.entries.items image (journal.written refl c.requires) (journal.synced refl c.requires) (journal.parsed refl c.requires) left
