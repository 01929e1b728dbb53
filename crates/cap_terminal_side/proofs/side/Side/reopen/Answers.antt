use Rattle.std.proofs.Common.{sym}
use Rattle.cap_terminal_side.proofs.Opening.{reopened_meets, stands_at}
use Rattle.cap_terminal_side.proofs.side.Side.reopen.Goals as goal

pub returns : goal.returns
returns c = λ most s places doubt le stands.
    let opened = c.in_ok-opened.ensures in
    let side = c.args.self.now in
    let lent = stands_at _ _ _ most side.power c.lend.result side.sent side.answers s places doubt (sym c.lend.ensures.taken) stands in
    reopened_meets _ _ _ c.args.prefix most c.lend.result c.in_ok-opened.opened side.sent side.answers s places doubt le lent
    (opened.opened s.settled s.tried s.on doubt lent.stands) opened.ready
