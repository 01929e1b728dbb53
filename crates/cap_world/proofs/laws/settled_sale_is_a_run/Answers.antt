use Rattle.cap_world.proofs.laws.settled_sale_is_a_run.Goals as goal
use Rattle.cap_world.proofs.Worked.{settled_sale_run}

pub returns : goal.returns
returns c = settled_sale_run
