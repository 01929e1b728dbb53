use Rattle.cap_base.proofs.Decimals.{written_amount}
use Rattle.cap_base.proofs.amount.MoneyDisplay.fmt.Goals as goal

pub returns-clause-writes : goal.returns-clause-writes
returns-clause-writes g c = rw (← written_amount c.args.self.now.hundredths) c.write.ensures.writes
