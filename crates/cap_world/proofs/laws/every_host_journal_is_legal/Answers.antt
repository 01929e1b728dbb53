use Rattle.cap_world.proofs.laws.every_host_journal_is_legal.Goals as goal
use Rattle.cap_world.proofs.LegalRuns.{every_host_journal_is_legal}

pub returns : goal.returns
returns c = every_host_journal_is_legal
