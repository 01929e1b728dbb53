use Rattle.cap_plays.specs.Report.{sold_text}
use Rattle.cap_plays.proofs.report.sold_piece.Goals as goal

pub returns : goal.returns
unfolding sold_text
returns c = c.format.ensures.ok
