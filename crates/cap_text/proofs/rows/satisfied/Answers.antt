use Rattle.std.proofs.Common.{◌∙◌, sym}
use Rattle.cap_text.proofs.Seeking.{suffices_not, suffices_on}
use Rattle.cap_text.proofs.rows.satisfied.Goals as goal

pub returns-then-stood-nodes : goal.returns-then-stood-nodes
returns-then-stood-nodes c = sym (c.loop-i.invariant ∙ suffices_not c.args.nodes.now c.loop-i.i _ c.loop-i.stood c.loop-i-test.true c.if-stood-nodes.true)

pub loop-i-preserved : goal.loop-i-preserved
loop-i-preserved c = c.loop-i.invariant ∙ suffices_on c.args.nodes.now c.loop-i.i _ c.loop-i.stood c.loop-i-test.true c.if-stood-nodes.false
