use Rattle.cap_plays.proofs.Dates.{one_text}
use Rattle.cap_plays.proofs.laws.one_text_without_faults.Goals as goal

pub returns : goal.returns
returns c = one_text
