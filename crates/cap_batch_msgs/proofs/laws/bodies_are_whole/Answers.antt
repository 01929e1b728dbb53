use Rattle.cap_batch_msgs.proofs.Whole.{same_body}
use Rattle.cap_batch_msgs.proofs.laws.bodies_are_whole.Goals as goal

pub returns : goal.returns
returns c = same_body
