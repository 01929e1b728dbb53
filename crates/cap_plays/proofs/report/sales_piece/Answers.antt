use Rattle.cap_plays.specs.Report.{sales_text}
use Rattle.cap_plays.proofs.report.sales_piece.Goals as goal

pub returns : goal.returns
unfolding sales_text
returns c = c.format.ensures.ok
