use Rattle.std.proofs.Common.{◌≡◌, ◌≤◌, ◌<◌, length, arith, refl, sym, ap, ◌∙◌}
use Rattle.std.specs.Prelude.{slice_get, Some}
use Rattle.std.proofs.lemmas.Option.{slice_get_read}
use Rattle.cap_power.specs.contracts.terminal.TerminalDiskJournalTermEntryMemoryDiskOverDiskTermEntry.TheImpl.{ghosts as term}
use Rattle.cap_power.specs.contracts.host.HostDiskJournalHostEntryMemoryDiskOverDiskHostEntry.TheImpl.{ghosts as ends}
use Rattle.cap_terminal_side.specs.declared.side.Side.{Side}
use Rattle.cap_network.proofs.Terminals as T
use Rattle.cap_network.proofs.network.Network.wake_terminal.Goals as goal

only_one : (x y : Side) → Some x ≡ Some y → x ≡ y
only_one x y e = cc

pub returns-then-place-len : goal.returns-then-place-len
returns-then-place-len c =
    let net = c.args.self.now in
    let past : length net.sides.items ≤ c.args.place = omega (arith, c.len.ensures, c.if-place-len.true) in
    T.absent_stays term.entries term.disk term.has_failed ends.entries ends.disk ends.has_failed (λ (side : Side). side.power) net.lines net.host net.sides.items c.args.place past

pub returns-in_ok-reopen-in-Off : goal.returns-in_ok-reopen-in-Off
returns-in_ok-reopen-in-Off c =
    let net = c.args.self.now in
    let within : c.args.place < length net.sides.items = omega (arith, c.len.ensures, c.if-place-len.false) in
    let at : slice_get net.sides.items c.args.place ≡ Some c.index_mut.result.now = slice_get_read net.sides.items (length net.sides.items) c.args.place c.index_mut.result.now refl within c.index_mut.ensures.value in
    let seen : slice_get net.sides.items c.args.place ≡ Some c.index.result.now = slice_get_read net.sides.items (length net.sides.items) c.args.place c.index.result.now refl within c.index.ensures in
    let same : c.index_mut.result.now ≡ c.index.result.now = only_one _ _ (sym at ∙ seen) in
    T.close_is term.entries term.disk term.has_failed ends.entries ends.disk ends.has_failed (λ (side : Side). side.power) net.lines net.host net.sides.items c.args.place c.index_mut.result.now c.reopen.new.self c.in-Off.field-0 c.in_ok-reopen-in-Off.field-0
    (ap (λ (side : Side). side.power) same ∙ c.in-Off.is) at c.in_ok-reopen-in-Off.ensures

pub returns-in-On : goal.returns-in-On
returns-in-On c =
    let net = c.args.self.now in
    let within : c.args.place < length net.sides.items = omega (arith, c.len.ensures, c.if-place-len.false) in
    let at : slice_get net.sides.items c.args.place ≡ Some c.index.result.now = slice_get_read net.sides.items (length net.sides.items) c.args.place c.index.result.now refl within c.index.ensures in
    T.stays_is term.entries term.disk term.has_failed ends.entries ends.disk ends.has_failed (λ (side : Side). side.power) net.lines net.host net.sides.items c.args.place c.index.result.now c.index.result.now c.in-On.field-0 c.in-On.is at
