use Rattle.std.proofs.Common.{◌≡◌, ℕ, length, [], Some}
use Rattle.std.specs.Prelude.{slice_get}
use Rattle.cap_host_index.specs.Noted.{IsIndex}
use Rattle.cap_host_index.specs.declared.index.LogIndex.{LogIndex}
use Rattle.cap_host.proofs.tables.empty_logs.Given as goal

abbrev pub invariant-loop : goal.invariant-loop
invariant-loop l = record {
  len : length l.logs.items ≡ l.counter;
  empty : (place : ℕ) (index : LogIndex) → slice_get l.logs.items place ≡ Some index → (terminal : ℕ) → IsIndex [] terminal index;
}
