use Rattle.std.proofs.Common.{subst}
use Rattle.cap_msgs.specs.Received.{Received, Read, Unread}
use Rattle.cap_host.specs.Answers.{Answers}
use Rattle.cap_host.proofs.host.Host.answer.Goals as goal

pub returns-in-Ok : goal.returns-in-Ok
returns-in-Ok g c = λ received reads.
    subst (λ (r : Received). Answers c.args.self.now c.answer_message.new.self c.args.moment r c.answer_message.result)
    (c.reading_is_exact.ensures.one c.args.bytes.now (Read c.in-Ok.message) received c.in-Ok.ensures.read reads) c.answer_message.ensures

pub returns-in-Err-Fault : goal.returns-in-Err-Fault
returns-in-Err-Fault g c = λ received reads.
    subst (λ (r : Received). Answers c.args.self.now c.answer_unread.new.self c.args.moment r c.answer_unread.result)
    (c.reading_is_exact.ensures.one c.args.bytes.now (Unread c.in-Err-Fault.fault) received (rw c.in-Err-Fault.field-0-is at c.in-Err-Fault.ensures.read) reads) c.answer_unread.ensures
