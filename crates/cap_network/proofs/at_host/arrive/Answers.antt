use Rattle.std.proofs.Common.{◌≡◌, ◌<◌, length, arith, refl}
use Rattle.std.specs.Prelude.{slice_get, Some}
use Rattle.std.proofs.lemmas.Option.{slice_get_read}
use Rattle.cap_power.specs.contracts.terminal.TerminalDiskJournalTermEntryMemoryDiskOverDiskTermEntry.TheImpl.{ghosts as term}
use Rattle.cap_power.specs.contracts.host.HostDiskJournalHostEntryMemoryDiskOverDiskHostEntry.TheImpl.{ghosts as ends}
use Rattle.cap_terminal_side.specs.declared.side.Side.{Side}
use Rattle.cap_network.proofs.Hosts as H
use Rattle.cap_network.proofs.at_host.arrive.Goals as goal

pub returns-in_ok-heard-in-Up-Some : goal.returns-in_ok-heard-in-Up-Some
returns-in_ok-heard-in-Up-Some c =
    let sides = c.args.sides.now.items in
    let terminal = c.in-Up-Some.terminal in
    let within : terminal < length sides = omega (arith, c.len.ensures, c.if-place-len.true) in
    let at : slice_get sides terminal ≡ Some c.index_mut.result.now = slice_get_read sides (length sides) terminal c.index_mut.result.now refl within c.index_mut.ensures.value in
    H.one_arrived term.entries term.disk term.has_failed ends.entries ends.disk ends.has_failed (λ (side : Side). side.power) sides c.args.order.now c.args.reply terminal c.in-Up-Some.which-0 c.in-Up-Some.text c.index_mut.result.now c.heard.new.self
    c.in-Up-Some.is-0 c.in-Up-Some.is-1 at c.in_ok-heard-in-Up-Some.ensures
