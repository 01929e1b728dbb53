use Rattle.cap_plays.proofs.Singles.{one_play}
use Rattle.cap_plays.proofs.laws.one_play_without_faults.Goals as goal

pub returns : goal.returns
returns c = one_play
