use Rattle.std.proofs.Common.{◌∙◌}
use Rattle.cap_text.proofs.Fronts.{begins_some}
use Rattle.cap_text.proofs.reason.begins_with.Goals as goal

pub returns : goal.returns
returns c = c.eq.ensures ∙ begins_some c.args.front.now c.args.bytes.now c.min.result c.min.ensures
