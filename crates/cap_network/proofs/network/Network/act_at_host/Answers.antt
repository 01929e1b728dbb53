use Rattle.std.proofs.Common.{List, subst}
use Rattle.cap_msgs.specs.Moment.{IsMoment}
use Rattle.cap_power.specs.contracts.terminal.TerminalDiskJournalTermEntryMemoryDiskOverDiskTermEntry.TheImpl.{ghosts as term}
use Rattle.cap_power.specs.contracts.host.HostDiskJournalHostEntryMemoryDiskOverDiskHostEntry.TheImpl.{ghosts as ends}
use Rattle.cap_terminal_side.specs.declared.side.Side.{Side}
use Rattle.cap_plays.specs.Texts.{texts_in}
use Rattle.cap_network.specs.Arriving.{Gives}
use Rattle.cap_network.proofs.Hosts as H
use Rattle.cap_network.proofs.network.Network.act_at_host.Goals as goal

pub returns : goal.returns
returns c =
    let net = c.args.self.now in
    let moment = subst (λ n. IsMoment n c.date_of.ensures.0) c.moment_of.ensures.moment c.date_of.ensures.1 in
    let gives = subst (λ (l : List Side). Gives l c.args.order.now c.given-place.result.0.now c.given-place.result.1) c.as_slice.ensures.value c.given-place.ensures in
    H.act_is term.entries term.disk term.has_failed ends.entries ends.disk ends.has_failed (λ (side : Side). side.power) net.lines net.host c.act.new.power net.sides.items c.arrive.new.sides.items c.args.number c.args.prefix c.args.order.now (texts_in c.given-place.result.0.now) c.given-place.result.1
    c.date_of.ensures.0 c.in_ok-outcome.field-0 c.requires.few moment
    (H.given_by term.entries term.disk term.has_failed ends.entries ends.disk ends.has_failed (λ (side : Side). side.power) net.lines net.host net.sides.items c.args.order.now c.given-place.result.0.now c.given-place.result.1 gives)
    c.in_ok-outcome.ensures.on c.in_ok-outcome.ensures.off c.in_ok-arrive.ensures
