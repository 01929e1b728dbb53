use Rattle.cap_plays.specs.Report.{cancelled_text}
use Rattle.cap_plays.proofs.report.cancelled_piece.Goals as goal

pub returns : goal.returns
unfolding cancelled_text
returns c = c.format.ensures.ok
