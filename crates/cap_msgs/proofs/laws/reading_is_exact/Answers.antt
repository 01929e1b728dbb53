use Rattle.cap_msgs.proofs.Exact.{reads_some, reads_one}
use Rattle.cap_msgs.proofs.laws.reading_is_exact.Goals as goal

pub returns-clause-some : goal.returns-clause-some
returns-clause-some c = reads_some

pub returns-clause-one : goal.returns-clause-one
returns-clause-one c = reads_one
