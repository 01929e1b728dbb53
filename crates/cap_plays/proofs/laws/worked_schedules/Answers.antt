use Rattle.cap_plays.proofs.Worked.{worked_schedules}
use Rattle.cap_plays.proofs.laws.worked_schedules.Goals as goal

pub returns : goal.returns
returns c = worked_schedules
