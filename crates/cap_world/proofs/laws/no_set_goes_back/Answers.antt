use Rattle.cap_world.proofs.laws.no_set_goes_back.Goals as goal
use Rattle.cap_world.proofs.ForceRuns.{no_set_goes_back}

pub returns : goal.returns
returns c = no_set_goes_back
