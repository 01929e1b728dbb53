-- The actions of a plan.
use Rattle.std.specs.Prelude.{◌≤◌, List, length}
use Rattle.cap_mgmt_msgs.specs.declared.actions.Action.{Action}

-- 1 to 8 actions
pub record IsPlan (actions : List Action) : Type 0 where
  pub some : 1 ≤ length actions
  pub few : length actions ≤ 8
