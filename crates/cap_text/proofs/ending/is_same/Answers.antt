use Rattle.std.proofs.Common.{◌∙◌, sym}
use Rattle.cap_text.proofs.Fronts.{same_end}
use Rattle.cap_text.proofs.ending.is_same.Goals as goal

pub returns : goal.returns
returns c = c.eq.ensures ∙ sym (same_end 62 c.args.own.now c.args.front.now)
