use Rattle.cap_world.proofs.laws.every_advice_is_accepted.Goals as goal
use Rattle.cap_world.proofs.Lawful.{every_advice_is_accepted}

pub returns : goal.returns
returns c = every_advice_is_accepted
