use Rattle.cap_world.proofs.laws.every_answer_is_expected.Goals as goal
use Rattle.cap_world.proofs.Lawful.{every_answer_is_expected}

pub returns : goal.returns
returns c = every_answer_is_expected
