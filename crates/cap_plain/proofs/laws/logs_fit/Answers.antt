use Rattle.cap_entries.specs.LogsFit as logs
use Rattle.cap_plain.proofs.laws.logs_fit.Goals as goal

pub returns : goal.returns
returns c = logs.logs_fit
