use Rattle.cap_terminal_side.specs.Arriving.{side_heard}
use Rattle.cap_terminal_side.proofs.side.Side.heard.Goals as goal

pub returns : goal.returns
returns c = λ most s places doubt message is stands.
    let side = c.args.self.now in
    side_heard _ _ _ most side.power side.sent side.answers c.push.new.self s places doubt message c.args.text stands is c.in_ok-push.ensures.items
