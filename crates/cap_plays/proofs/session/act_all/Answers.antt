use Rattle.std.proofs.Common.{◌≡◌, ◌<◌, ◌≤◌, length, get_or, subst}
use Rattle.cap_plays.proofs.Sessions.{acted_none, acted_more, acted_last, line_at}
use Rattle.cap_schedule.specs.Ranges.{ActionInRange}
use Rattle.cap_schedule.specs.declared.schedule.Line.{Line}
use Rattle.cap_plays.proofs.session.act_all.Goals as goal

pub loop-line-init : goal.loop-line-init
loop-line-init g c = acted_none (g.N.Network.corresponds c.args.network.now) c.args.schedule.now c.args.text.now.items c.requires.first

pub act-requires : goal.act-requires
act-requires g c =
    let lines = c.as_slice-line-items.ensures in
    line_at (λ (l : Line). ActionInRange l.action) c.args.schedule.now.lines c.loop-line.line-index c.line-item.result (subst (λ l. c.loop-line.line-index < length l) lines c.loop-line-test.true)
    (subst (λ l. c.line-item.result ≡ get_or l c.loop-line.line-index c.line-item.result) lines c.line-item.is) c.requires.range.lines

pub loop-line-preserved : goal.loop-line-preserved
loop-line-preserved g c =
    let lines = c.as_slice-line-items.ensures in
    rw c.in_ok-put_outcome.ensures (acted_more (g.N.Network.corresponds c.loop-line.network) (g.N.Network.corresponds c.act.new.self) c.args.schedule.now c.loop-line.line-index c.line-item.result c.args.text.now.items c.loop-line.text.items c.in_ok-outcome.outcome
    c.requires.range (subst (λ l. c.loop-line.line-index < length l) lines c.loop-line-test.true)
    (subst (λ l. c.line-item.result ≡ get_or l c.loop-line.line-index c.line-item.result) lines c.line-item.is) c.loop-line.invariant c.in_ok-outcome.ensures)

pub returns : goal.returns
returns g c =
    acted_last (g.N.Network.corresponds c.loop-line.network) c.args.schedule.now c.loop-line.line-index c.args.text.now.items c.loop-line.text.items
    (subst (λ l. length l ≤ c.loop-line.line-index) c.as_slice-line-items.ensures c.loop-line-test.false) c.loop-line.invariant
