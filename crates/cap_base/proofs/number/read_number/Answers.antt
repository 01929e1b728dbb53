use Rattle.cap_base.proofs.Digits.{below_most}
use Rattle.cap_base.proofs.number.read_number.Goals as goal

pub returns-then-are_digits-clause-small : goal.returns-then-are_digits-clause-small
returns-then-are_digits-clause-small c = below_most _ _ _ c.value_of_digits.ensures.small c.if-text-most.true
