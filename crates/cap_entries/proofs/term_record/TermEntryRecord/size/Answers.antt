use Rattle.std.proofs.Common.{ℕ, ◌+◌, List, length, ◌∙◌, ap}
use Rattle.cap_base.specs.declared.parameters.Row.{Row}
use Rattle.cap_entries.specs.RecordParts.{list_bytes}
use Rattle.cap_entries.specs.RecordField.{row_bytes}
use Rattle.cap_entries.proofs.Places.{completed_size, part_size}
use Rattle.cap_entries.proofs.term_record.TermEntryRecord.size.Goals as goal

pub returns-in-Completed : goal.returns-in-Completed
returns-in-Completed c = ap (λ (l : List ℕ). 9 + length l) c.as_bytes-in-Completed.ensures.text ∙ completed_size c.args.self.now c.in-Completed.n c.in-Completed.code c.in-Completed.is

pub returns-in-Part : goal.returns-in-Part
returns-in-Part c =
    ap (λ (k : ℕ). 11 + k) (c.list_size.ensures.value ∙ ap (λ (l : List Row). length (list_bytes 0 row_bytes l)) c.as_slice.ensures.rows) ∙ part_size c.args.self.now c.in-Part.part c.in-Part.is
