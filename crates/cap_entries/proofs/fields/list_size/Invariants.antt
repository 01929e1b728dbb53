use Rattle.std.proofs.Common.{◌≡◌, ◌+◌, ◌*◌, ◌≤◌, length, drop}
use Rattle.std.specs.List.{flat_map}
use Rattle.cap_entries.proofs.fields.list_size.Given as goal

abbrev pub invariant-loop-field : goal.invariant-loop-field
invariant-loop-field g l = record {
  so_far : l.total + length (flat_map g.F.Field.written (drop l.field-index l.list)) ≡ 1 + length (flat_map g.F.Field.written l.list);
  small : l.total ≤ 1 + 72 * l.field-index;
}
