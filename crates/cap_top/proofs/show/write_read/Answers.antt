use Rattle.std.proofs.Common.{inr}
use Rattle.std.proofs.lemmas.Result.{IfOk-weaker}
use Rattle.cap_text.specs.Faults.{FirstFault}
use Rattle.cap_top.proofs.show.write_read.Goals as goal

pub write_message-requires : goal.write_message-requires
write_message-requires c = c.in-Ok.ensures.fits c.requires.0 c.requires.1

pub returns-in-Err-Fault : goal.returns-in-Err-Fault
returns-in-Err-Fault c = λ bytes h.
    let first : FirstFault bytes c.in-Err-Fault.fault = rw c.in-Err-Fault.field-0-is at (c.in-Err-Fault.ensures.read bytes h) in
    IfOk-weaker c.write_fault.result _ _ (λ text is. inr (c.in-Err-Fault.fault, first, is)) c.write_fault.ensures
