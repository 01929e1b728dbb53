use Rattle.cap_plays.specs.Report.{host_numbers}
use Rattle.cap_plays.proofs.report.host_piece.Goals as goal

pub returns : goal.returns
unfolding host_numbers
returns c = c.format.ensures.ok
