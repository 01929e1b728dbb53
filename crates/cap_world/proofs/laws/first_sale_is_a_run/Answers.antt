use Rattle.cap_world.proofs.laws.first_sale_is_a_run.Goals as goal
use Rattle.cap_world.proofs.Worked.{first_sale_run}

pub returns : goal.returns
returns c = first_sale_run
