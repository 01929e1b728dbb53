use Rattle.cap_msgs.proofs.Exact.{fault_within, fault_exchange}
use Rattle.cap_msgs.proofs.laws.faults_are_within.Goals as goal

pub returns-clause-place : goal.returns-clause-place
returns-clause-place c = fault_within

pub returns-clause-exchange : goal.returns-clause-exchange
returns-clause-exchange c = fault_exchange
