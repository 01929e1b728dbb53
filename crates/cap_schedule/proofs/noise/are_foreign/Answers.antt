use Rattle.std.proofs.Common.{◌≡◌, true, refl, sym, subst}
use Rattle.cap_msgs.specs.Received.{Received, Read, Unread}
use Rattle.cap_msgs.specs.Unread.{IsUnread}
use Rattle.cap_schedule.specs.Noise.{is_foreign}
use Rattle.cap_schedule.proofs.noise.are_foreign.Goals as goal

pub returns-in-Ok : goal.returns-in-Ok
returns-in-Ok c = λ r reads.
    let P : Received → Type 0 = λ s. c.is_foreign.result ≡ is_foreign c.args.host.now c.args.terminals.now s in
    let e = c.reading_is_exact.ensures.one c.args.bytes.now r (Read c.in-Ok.message) reads c.in-Ok.ensures.read in
    subst P (sym e) c.is_foreign.ensures

pub returns-in-Err-Fault : goal.returns-in-Err-Fault
returns-in-Err-Fault c = λ r reads.
    let P : Received → Type 0 = λ s. true ≡ is_foreign c.args.host.now c.args.terminals.now s in
    let e = c.reading_is_exact.ensures.one c.args.bytes.now r (Unread c.in-Err-Fault.field-0-0) reads (subst (IsUnread c.args.bytes.now) c.in-Err-Fault.field-0-is c.in-Err-Fault.ensures.read) in
    subst P (sym e) refl
