use Rattle.cap_world.proofs.laws.every_run_agrees.Goals as goal
use Rattle.cap_world.proofs.Steps.{every_run_agrees}

pub returns : goal.returns
returns c = every_run_agrees
