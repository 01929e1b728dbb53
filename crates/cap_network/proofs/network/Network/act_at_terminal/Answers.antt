use Rattle.std.proofs.Common.{◌≡◌, ◌≤◌, ◌<◌, length, subst, arith, refl}
use Rattle.std.specs.Prelude.{slice_get, Some}
use Rattle.std.proofs.lemmas.Option.{slice_get_read}
use Rattle.cap_msgs.specs.Moment.{IsMoment}
use Rattle.cap_power.specs.contracts.terminal.TerminalDiskJournalTermEntryMemoryDiskOverDiskTermEntry.TheImpl.{ghosts as term}
use Rattle.cap_power.specs.contracts.host.HostDiskJournalHostEntryMemoryDiskOverDiskHostEntry.TheImpl.{ghosts as ends}
use Rattle.cap_terminal_side.specs.declared.side.Side.{Side}
use Rattle.cap_network.proofs.Terminals as T
use Rattle.cap_network.proofs.network.Network.act_at_terminal.Goals as goal

pub returns-then-place-len : goal.returns-then-place-len
returns-then-place-len c =
    let net = c.args.self.now in
    let moment = subst (λ n. IsMoment n c.date_of.ensures.0) c.moment_of.ensures.moment c.date_of.ensures.1 in
    let past : length net.sides.items ≤ c.args.place = omega (arith, c.len.ensures, c.if-place-len.true) in
    T.absent_acts term.entries term.disk term.has_failed ends.entries ends.disk ends.has_failed (λ (side : Side). side.power) net.lines net.host net.sides.items c.args.place c.args.number c.args.prefix c.args.order.now c.date_of.ensures.0 past moment

pub returns : goal.returns
returns c =
    let net = c.args.self.now in
    let moment = subst (λ n. IsMoment n c.date_of.ensures.0) c.moment_of.ensures.moment c.date_of.ensures.1 in
    let within : c.args.place < length net.sides.items = omega (arith, c.len.ensures, c.if-place-len.false) in
    let at : slice_get net.sides.items c.args.place ≡ Some c.index_mut.result.now = slice_get_read net.sides.items (length net.sides.items) c.args.place c.index_mut.result.now refl within c.index_mut.ensures.value in
    T.act_done term.entries term.disk term.has_failed ends.entries ends.disk ends.has_failed (λ (side : Side). side.power) net.lines net.host net.sides.items c.args.place c.index_mut.result.now c.act.new.self c.in_ok-outcome.outcome c.args.number c.args.prefix c.args.order.now c.date_of.ensures.0
    c.requires.few at moment c.in_ok-outcome.ensures.on c.in_ok-outcome.ensures.off
