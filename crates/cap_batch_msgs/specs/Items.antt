-- The items of a batch.
use Rattle.std.specs.Prelude.{◌≤◌, List, length}
use Rattle.cap_base.specs.declared.item.Item.{Item}

-- 1 to 100 items
pub record IsBatch (items : List Item) : Type 0 where
  pub some : 1 ≤ length items
  pub few : length items ≤ 100
