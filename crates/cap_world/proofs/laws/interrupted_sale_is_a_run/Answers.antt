use Rattle.cap_world.proofs.laws.interrupted_sale_is_a_run.Goals as goal
use Rattle.cap_world.proofs.Worked.{interrupted_sale_run}

pub returns : goal.returns
returns c = interrupted_sale_run
