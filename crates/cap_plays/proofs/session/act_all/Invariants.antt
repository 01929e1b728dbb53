use Rattle.std.proofs.Common.{drop}
use Rattle.cap_plays.specs.Session.{ActedAll}
use Rattle.cap_plays.proofs.session.act_all.Given as goal

abbrev pub invariant-loop-line : goal.invariant-loop-line
invariant-loop-line g l = ActedAll (g.N.Network.corresponds l.network) l.schedule (drop l.line-index l.schedule.lines) l.initial.text.items l.text.items
