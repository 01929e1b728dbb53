use Rattle.cap_replay.proofs.Adding.{adds_then}
use Rattle.cap_replay.proofs.generator.put_closing.Goals as goal

pub returns : goal.returns
returns c = adds_then _ _ _ _ _ c.in_ok-put_order.ensures c.in_ok-exchange.ensures
