use Rattle.std.proofs.Common.{◌∙◌, ap}
use Rattle.cap_entries.specs.HostSummary.{host_may_follow}
use Rattle.cap_entries.specs.HostSummaryLaws.{host_may_follow_is}
use Rattle.cap_entries.proofs.host_judge.HostJudge.allows.Goals as goal

pub returns-clause-exact : goal.returns-clause-exact
returns-clause-exact c = λ entries is ok. c.may_follow.ensures ∙ (ap (λ s. host_may_follow s c.args.entry.now) is ∙ host_may_follow_is entries c.args.entry.now ok)
