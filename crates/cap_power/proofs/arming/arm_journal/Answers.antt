use Rattle.std.proofs.Common.{◌∙◌}
use Rattle.cap_power.specs.Images.{no_others_by_history}
use Rattle.cap_power.proofs.Numbers.{told_armed}
use Rattle.cap_power.proofs.arming.arm_journal.Goals as goal

pub returns-then-cuts-clause-images : goal.returns-then-cuts-clause-images
returns-then-cuts-clause-images g c = no_others_by_history c.args.journal.disk c.arm_cut.new.self.disk c.arm_cut.ensures.history

pub returns-then-cuts-clause-counts : goal.returns-then-cuts-clause-counts
returns-then-cuts-clause-counts g c = λ told is. c.arm_cut.ensures.counts ∙ told_armed c.args.journal.disk c.args.call told is

pub returns-else-cuts-clause-images : goal.returns-else-cuts-clause-images
returns-else-cuts-clause-images g c = no_others_by_history c.args.journal.disk c.arm_fail.new.self.disk c.arm_fail.ensures.history

pub returns-else-cuts-clause-counts : goal.returns-else-cuts-clause-counts
returns-else-cuts-clause-counts g c = λ told is. c.arm_fail.ensures.counts ∙ told_armed c.args.journal.disk c.args.call told is
