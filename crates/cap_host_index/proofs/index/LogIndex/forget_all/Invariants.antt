use Rattle.std.proofs.Common.{◌≡◌, ℕ, ◌&&◌, not, cond, take, None}
use Rattle.std.specs.List.{list_any}
use Rattle.std.specs.Ordering.{nat_cmp}
use Rattle.std.specs.BTreeSet.{contains}
use Rattle.std.specs.BTreeMap.{get}
use Rattle.cap_base.specs.Item.{is_end}
use Rattle.cap_host_index.proofs.index.LogIndex.forget_all.Given as goal

abbrev pub invariant-loop-item : goal.invariant-loop-item
invariant-loop-item l = record {
  ended : (n : ℕ) → contains nat_cmp l.self.ended n ≡ (contains nat_cmp l.fn.self.ended n && not (list_any (is_end n) (take l.item-index l.items)));
  captured : (n : ℕ) → get nat_cmp l.self.captured n ≡ cond (list_any (is_end n) (take l.item-index l.items)) None (get nat_cmp l.fn.self.captured n);
  places : l.self.places ≡ l.fn.self.places;
  kept : l.self.kept ≡ l.fn.self.kept;
  closed : l.self.closed ≡ l.fn.self.closed;
  running : l.self.running ≡ l.fn.self.running;
}
