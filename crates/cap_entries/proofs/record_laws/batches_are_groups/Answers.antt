use Rattle.cap_entries.specs.HostRecordLaws.{took_group_size}
use Rattle.cap_entries.proofs.record_laws.batches_are_groups.Goals as goal

pub returns : goal.returns
returns c = took_group_size
