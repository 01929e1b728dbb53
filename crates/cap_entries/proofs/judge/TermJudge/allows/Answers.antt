use Rattle.std.proofs.Common.{◌∙◌, ap}
use Rattle.cap_entries.specs.Summary.{may_follow}
use Rattle.cap_entries.specs.SummaryLaws.{may_follow_is}
use Rattle.cap_entries.proofs.judge.TermJudge.allows.Goals as goal

pub returns-clause-exact : goal.returns-clause-exact
returns-clause-exact c = λ entries is ok. c.may_follow.ensures ∙ (ap (λ s. may_follow s c.args.entry.now) is ∙ may_follow_is entries c.args.entry.now ok)
