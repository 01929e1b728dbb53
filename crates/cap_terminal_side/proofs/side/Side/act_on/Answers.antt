use Rattle.std.proofs.Common.{◌≡◌, length, refl, arith}
use Rattle.cap_terminal_side.proofs.Acting.{acts}
use Rattle.cap_terminal_side.proofs.side.Side.act_on.Goals as goal

pub returns : goal.returns
returns c = λ reads most s places doubt reader few noise stands.
    let armed = c.in_ok-terminal.ensures in
    let settled = c.in_ok-settled.ensures in
    let side = c.args.self.now in
    let counted : c.len-sent.result ≡ length side.sent.items = omega (arith, c.len-sent.ensures) in
    let does = c.act-said.ensures.acts in
    acts _ _ (record { told = λ t. refl; left = λ t image l. l; leaves = λ t image l. l; counts = λ t. refl }) most c.args.terminal side.sent side.answers s places doubt stands
    c.args.prefix c.in_ok-terminal.terminal c.act-said.new.terminal c.act-said.result c.parted-said.result c.in_ok-settled.settled c.keep.new.texts
    c.deref.result.now reads c.args.moment c.len-sent.result c.args.order.now
    armed.call armed.entries armed.works armed.images (armed.counts most) reader few noise counted c.deref.ensures.value does
    c.parted-said.ensures
    (record { stays = settled.stays; outcome = settled.outcome; cut = settled.cut; was_cut = settled.was_cut; ready = settled.ready; broken = settled.broken; fault = settled.fault; no_memory = λ is. let e = settled.memory is in cc })
    c.in_ok-keep.ensures
