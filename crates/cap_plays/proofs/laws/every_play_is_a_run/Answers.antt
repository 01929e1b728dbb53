use Rattle.cap_plays.proofs.Chains.{does_run}
use Rattle.cap_plays.proofs.laws.every_play_is_a_run.Goals as goal

pub returns : goal.returns
returns c = does_run
