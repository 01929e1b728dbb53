-- The rows of a part of a parameter set.
use Rattle.std.specs.Prelude.{◌≤◌, List, length}
use Rattle.cap_base.specs.declared.parameters.Row.{Row}

-- 1 to 16 rows
pub record IsPartRows (rows : List Row) : Type 0 where
  pub some : 1 ≤ length rows
  pub few : length rows ≤ 16
