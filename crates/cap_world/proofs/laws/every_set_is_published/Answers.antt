use Rattle.cap_world.proofs.laws.every_set_is_published.Goals as goal
use Rattle.cap_world.proofs.ForceRuns.{every_set_is_published}

pub returns : goal.returns
returns c = every_set_is_published
