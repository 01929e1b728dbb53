use Rattle.cap_world.proofs.laws.every_completion_is_approved.Goals as goal
use Rattle.cap_world.proofs.Approve.{every_completion_is_approved}

pub returns : goal.returns
returns c = every_completion_is_approved
