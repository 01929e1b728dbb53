use Rattle.cap_world.proofs.laws.every_run_can_settle.Goals as goal
use Rattle.cap_world.proofs.Settling.{every_run_can_settle}

pub returns : goal.returns
returns c = every_run_can_settle
