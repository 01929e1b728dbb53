use Rattle.cap_plain.specs.Counted.{few_sales, few_cancels}
use Rattle.cap_plain.proofs.laws.sums_are_bounded.Goals as goal

pub returns-clause-sales : goal.returns-clause-sales
returns-clause-sales c = few_sales

pub returns-clause-cancels : goal.returns-clause-cancels
returns-clause-cancels c = few_cancels
