use Rattle.cap_plays.specs.Session.{ReopenedTo}
use Rattle.cap_plays.proofs.session.reopen_all.Given as goal

abbrev pub invariant-loop-place : goal.invariant-loop-place
invariant-loop-place g l = ReopenedTo (g.N.Network.corresponds l.fn.network) (g.N.Network.corresponds l.network) l.place
