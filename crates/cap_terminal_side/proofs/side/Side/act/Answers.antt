use Rattle.std.proofs.Common.{◌∙◌, ◌+◌, sym}
use Rattle.cap_terminal_side.proofs.Opening.{stands_at}
use Rattle.cap_terminal_side.proofs.Acting.{does_at}
use Rattle.cap_terminal_side.proofs.side.Side.act.Goals as goal

pub returns-in-On-clause-on : goal.returns-in-On-clause-on
returns-in-On-clause-on c = λ reads most s places doubt reader few noise stands on.
    let side = c.args.self.now in
    let here = stands_at _ _ _ most side.power _ side.sent side.answers s places doubt (sym c.lend.ensures.taken ∙ c.in-On.is) stands in
    does_at _ _ _ reads (most + 8) c.act_on.new.self.power c.act_on.new.self.sent c.act_on.new.self.answers s places c.args.number c.moment_of.result c.args.prefix c.args.order.now c.act_on.result
    c.moment_of.ensures.moment (c.act_on.ensures reads most s places doubt reader few noise here)
