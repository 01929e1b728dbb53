use Rattle.cap_text.proofs.WrittenAgain.{spells_fit, spells_again, same_tree}
use Rattle.cap_text.proofs.laws.writing_is_stable.Goals as goal

pub returns-clause-fits : goal.returns-clause-fits
returns-clause-fits c = spells_fit

pub returns-clause-again : goal.returns-clause-again
returns-clause-again c = spells_again

pub returns-clause-same : goal.returns-clause-same
returns-clause-same c = same_tree
