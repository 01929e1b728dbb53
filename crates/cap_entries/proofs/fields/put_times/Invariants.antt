use Rattle.std.proofs.Common.{◌≡◌, ◌+◌, ◌≤◌, ◌++◌, length, drop, vec_len, vec_capacity}
use Rattle.std.specs.List.{flat_map}
use Rattle.cap_entries.proofs.fields.put_times.Given as goal

abbrev pub invariant-loop-field : goal.invariant-loop-field
invariant-loop-field g l = record {
  so_far : l.out.items ++ flat_map g.F.Field.written (drop l.field-index l.list) ≡ l.fn.out.items ++ flat_map g.F.Field.written l.list;
  len : vec_len l.out + length (flat_map g.F.Field.written (drop l.field-index l.list)) ≡ vec_len l.fn.out + length (flat_map g.F.Field.written l.list);
  capacity : vec_capacity l.out ≡ vec_capacity l.fn.out;
}
