use Rattle.cap_entries.specs.SummaryKept.{items_few}
use Rattle.cap_plain.specs.LegalLaws as legal
use Rattle.cap_plain.proofs.laws.items_fit.Goals as goal

pub returns-clause-fit : goal.returns-clause-fit
returns-clause-fit c = legal.items_fit

pub returns-clause-few : goal.returns-clause-few
returns-clause-few c = items_few
