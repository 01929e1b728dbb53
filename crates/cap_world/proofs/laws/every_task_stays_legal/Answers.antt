use Rattle.cap_world.proofs.laws.every_task_stays_legal.Goals as goal
use Rattle.cap_world.proofs.LegalRuns.{every_task_stays_legal}

pub returns : goal.returns
returns c = every_task_stays_legal
