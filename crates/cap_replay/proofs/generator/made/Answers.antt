use Rattle.cap_replay.proofs.Adding.{made_is}
use Rattle.cap_replay.proofs.generator.made.Goals as goal

pub returns : goal.returns
returns c = made_is _ _ _ _ c.new-lines.ensures c.in_ok-put_all.ensures c.in_ok-schedule.ensures
