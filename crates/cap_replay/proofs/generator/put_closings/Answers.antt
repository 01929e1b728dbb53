use Rattle.cap_replay.proofs.Adding.{adds_then}
use Rattle.cap_replay.proofs.generator.put_closings.Goals as goal

pub returns : goal.returns
returns c =
    adds_then _ _ _ _ _ c.in_ok-put_closing.ensures
    (adds_then _ _ _ _ _ c.in_ok-put_closing-2.ensures (adds_then _ _ _ _ _ c.in_ok-put_closing-3.ensures c.in_ok-put_closing-4.ensures))
