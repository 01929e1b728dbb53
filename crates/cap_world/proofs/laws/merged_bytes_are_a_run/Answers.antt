use Rattle.cap_world.proofs.laws.merged_bytes_are_a_run.Goals as goal
use Rattle.cap_world.proofs.MergedBytes.{merged_bytes_are_a_run}

pub returns : goal.returns
returns c = merged_bytes_are_a_run
