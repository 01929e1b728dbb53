use Rattle.cap_terminal_answers.specs.Numbers.{numbers_allow_is}
use Rattle.cap_terminal_answers.proofs.part.may_add.Goals as goal

pub returns : goal.returns
returns c = rw (c.allows.ensures, c.in_force.ensures, c.last_part.ensures) (numbers_allow_is c.args.entries.now c.args.part.now)
