use Rattle.cap_msgs.proofs.Whole.{same_body, same_message}
use Rattle.cap_msgs.proofs.laws.messages_are_whole.Goals as goal

pub returns-clause-body : goal.returns-clause-body
returns-clause-body c = same_body

pub returns-clause-message : goal.returns-clause-message
returns-clause-message c = same_message
