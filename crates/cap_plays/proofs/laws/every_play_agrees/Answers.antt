use Rattle.cap_plays.specs.Turns.{world_of}
use Rattle.cap_plays.proofs.Chains.{does_run}
use Rattle.cap_plays.proofs.laws.every_play_agrees.Goals as goal

pub returns : goal.returns
returns c = λ reads s played range noise does.
    c.every_run_agrees.ensures s.host s.terminals played.happenings (world_of played.last) range.set_ups (does_run reads s played range noise does)
