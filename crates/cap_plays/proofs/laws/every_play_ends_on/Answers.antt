use Rattle.cap_plays.proofs.Closing.{ends_on}
use Rattle.cap_plays.proofs.laws.every_play_ends_on.Goals as goal

pub returns : goal.returns
returns c = ends_on
