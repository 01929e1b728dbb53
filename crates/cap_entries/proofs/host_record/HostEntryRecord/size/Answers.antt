use Rattle.std.proofs.Common.{ℕ, ◌+◌, List, length, ◌∙◌, ap}
use Rattle.cap_base.specs.declared.parameters.Row.{Row}
use Rattle.cap_entries.specs.RecordParts.{list_bytes}
use Rattle.cap_entries.specs.RecordField.{row_bytes}
use Rattle.cap_entries.proofs.Places.{published_size}
use Rattle.cap_entries.proofs.host_record.HostEntryRecord.size.Goals as goal

pub returns-in-Published : goal.returns-in-Published
returns-in-Published c =
    ap (λ (k : ℕ). 9 + k) (c.list_size.ensures.value ∙ ap (λ (l : List Row). length (list_bytes 1 row_bytes l)) c.as_slice.ensures.rows) ∙ published_size c.args.self.now c.in-Published.version c.in-Published.rows c.in-Published.is
