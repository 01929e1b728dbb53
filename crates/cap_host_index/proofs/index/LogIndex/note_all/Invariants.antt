use Rattle.std.proofs.Common.{◌≡◌, ℕ, true, false, List, take}
use Rattle.std.specs.List.{list_any}
use Rattle.std.specs.Ordering.{nat_cmp}
use Rattle.std.specs.BTreeSet.{contains}
use Rattle.std.specs.BTreeMap.{get}
use Rattle.cap_base.specs.Item.{is_end}
use Rattle.cap_base.specs.Fits.{all_fit}
use Rattle.cap_entries.specs.declared.host.HostEntry.{HostEntry}
use Rattle.cap_entries.specs.Log.{log}
use Rattle.cap_host_index.specs.Noted.{IsNoted, IsIndex}
use Rattle.cap_host_index.proofs.index.LogIndex.note_all.Given as goal

abbrev pub invariant-loop-i : goal.invariant-loop-i
invariant-loop-i l = record {
  noted : (entries : List HostEntry) (terminal : ℕ) → IsIndex entries terminal l.fn.self → all_fit (log entries terminal) l.items ≡ true → IsNoted entries terminal (take l.i l.items) l.self;
  other_ends : (n : ℕ) → list_any (is_end n) l.items ≡ false → contains nat_cmp l.self.ended n ≡ contains nat_cmp l.fn.self.ended n;
  other_places : (n : ℕ) → list_any (is_end n) l.items ≡ false → get nat_cmp l.self.captured n ≡ get nat_cmp l.fn.self.captured n;
  places : l.self.places ≡ l.fn.self.places;
  kept : l.self.kept ≡ l.fn.self.kept;
  closed : l.self.closed ≡ l.fn.self.closed;
  running : l.self.running ≡ l.fn.self.running;
}
