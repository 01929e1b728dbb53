use Rattle.cap_fields.proofs.Views.{all_put}
use Rattle.cap_fields.proofs.build.leaves.Goals as goal

pub returns : goal.returns
returns c = all_put c.args.leaves.now c.loop-at.children c.loop-at.at c.loop-at-test.false c.loop-at.invariant
