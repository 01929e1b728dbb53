use Rattle.cap_msgs.proofs.Exact.{read_spellable, reads_again, message_size}
use Rattle.cap_msgs.proofs.laws.texts_read_again.Goals as goal

pub returns-clause-spellable : goal.returns-clause-spellable
returns-clause-spellable c = read_spellable

pub returns-clause-again : goal.returns-clause-again
returns-clause-again c = reads_again

pub returns-clause-size : goal.returns-clause-size
returns-clause-size c = message_size
