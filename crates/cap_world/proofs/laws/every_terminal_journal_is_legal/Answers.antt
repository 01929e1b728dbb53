use Rattle.cap_world.proofs.laws.every_terminal_journal_is_legal.Goals as goal
use Rattle.cap_world.proofs.LegalRuns.{every_terminal_journal_is_legal}

pub returns : goal.returns
returns c = every_terminal_journal_is_legal
