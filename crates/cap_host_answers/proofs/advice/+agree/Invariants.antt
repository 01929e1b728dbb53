use Rattle.std.proofs.Common.{length}
use Rattle.cap_host_answers.proofs.advice.+agree.Given as goal

abbrev pub decreases-agree : goal.decreases-agree
decreases-agree l = length l.others.now
