use Rattle.std.proofs.Common.{arith}
use Rattle.cap_replay.specs.declared.generator.Tally.{Tally}
use Rattle.cap_replay.proofs.Adding.{adds_then, room, closings_are}
use Rattle.cap_replay.proofs.generator.put_all.Goals as goal

abbrev nothing : Tally
nothing = record { sales = 0; answers = 0 }

pub put_closings-requires-clause-first : goal.put_closings-requires-clause-first
put_closings-requires-clause-first c = room c.args.sales 0 nothing c.in_ok-tallies.tallies c.requires (omega arith) c.in_ok-tallies.ensures.tallies

pub put_closings-requires-clause-second : goal.put_closings-requires-clause-second
put_closings-requires-clause-second c = room c.args.sales 1 nothing c.in_ok-tallies.tallies c.requires (omega arith) c.in_ok-tallies.ensures.tallies

pub put_closings-requires-clause-third : goal.put_closings-requires-clause-third
put_closings-requires-clause-third c = room c.args.sales 2 nothing c.in_ok-tallies.tallies c.requires (omega arith) c.in_ok-tallies.ensures.tallies

pub put_closings-requires-clause-fourth : goal.put_closings-requires-clause-fourth
put_closings-requires-clause-fourth c = room c.args.sales 3 nothing c.in_ok-tallies.tallies c.requires (omega arith) c.in_ok-tallies.ensures.tallies

pub returns : goal.returns
returns c =
    adds_then _ _ _ _ _ c.in_ok-tallies.ensures.lines (closings_are c.args.sales nothing _ _ c.in_ok-tallies.tallies c.in_ok-tallies.ensures.tallies c.in_ok-put_closings.ensures)
