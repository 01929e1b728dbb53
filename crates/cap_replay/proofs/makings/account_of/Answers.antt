use Rattle.cap_replay.proofs.Accounts.{account_reads}
use Rattle.cap_replay.proofs.makings.account_of.Goals as goal

pub unreachable-requires : goal.unreachable-requires
unreachable-requires c = account_reads c.args.i c.account_text.result c.read.result c.account_text.ensures c.read.ensures c.in-None.is
