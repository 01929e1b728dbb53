use Rattle.cap_plays.proofs.Sessions.{reopened_host, reopened_more, reopened_last}
use Rattle.cap_plays.proofs.session.reopen_all.Goals as goal

pub loop-place-init : goal.loop-place-init
loop-place-init g c = reopened_host (g.N.Network.corresponds c.args.network.now) _ c.in_ok-reopen.ensures

pub loop-place-preserved : goal.loop-place-preserved
loop-place-preserved g c =
    reopened_more (g.N.Network.corresponds c.args.network.now) (g.N.Network.corresponds c.loop-place.network) _ c.loop-place.place c.terminals-count.result c.terminals-count.ensures c.loop-place-test.true c.loop-place.invariant c.in_ok-reopen-2.ensures

pub returns : goal.returns
returns g c =
    reopened_last (g.N.Network.corresponds c.args.network.now) (g.N.Network.corresponds c.loop-place.network) c.loop-place.place c.terminals-count.result c.terminals-count.ensures c.loop-place-test.false c.loop-place.invariant
