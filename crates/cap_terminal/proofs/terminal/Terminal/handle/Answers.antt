use Rattle.std.proofs.Common.{[], Err, subst}
use Rattle.cap_msgs.specs.declared.error.DecodeError.{DecodeError}
use Rattle.cap_msgs.specs.Unread.{IsUnread}
use Rattle.cap_msgs.specs.Received.{Received, Read, Unread}
use Rattle.cap_terminal_answers.specs.declared.handled.TermFault.TheVariants as fault
use Rattle.cap_terminal_answers.specs.Takes.{takes}
use Rattle.cap_terminal.specs.Handles.{Handles}
use Rattle.cap_terminal.proofs.Added.{lacks}
use Rattle.cap_terminal.proofs.Fine.{none_handled, memory_handled}
use Rattle.cap_terminal.proofs.terminal.Terminal.handle.Goals as goal

pub returns-in-Ok-clause-takes : goal.returns-in-Ok-clause-takes
returns-in-Ok-clause-takes g c = λ received reads.
    let old = c.args.self.now in
    subst (λ (r : Received). Handles g.J.Journal old c.handle_message.new.self c.handle_message.result (takes (g.J.Journal.entries old) r))
    (c.reading_is_exact.ensures.one c.args.bytes.now (Read c.in-Ok.message) received c.in-Ok.ensures.read reads) c.handle_message.ensures.handles

pub returns-in-Ok-clause-stays : goal.returns-in-Ok-clause-stays
returns-in-Ok-clause-stays g c = c.handle_message.ensures.handles.adds.stays

pub returns-in-Err-Fault-clause-takes : goal.returns-in-Err-Fault-clause-takes
returns-in-Err-Fault-clause-takes g c = λ received reads.
    let old = c.args.self.now in
    let first = c.in-Err-Fault.fault in
    subst (λ (r : Received). Handles g.J.Journal old old (Err (fault.Unread first)) (takes (g.J.Journal.entries old) r))
    (c.reading_is_exact.ensures.one c.args.bytes.now (Unread first) received (subst (λ (e : DecodeError). IsUnread c.args.bytes.now e) c.in-Err-Fault.field-0-is c.in-Err-Fault.ensures.read) reads)
    (none_handled g.J.Journal g.met.J.Journal.only_now old (Err (fault.Unread first)) tt)

pub returns-in-Err-Fault-clause-stays : goal.returns-in-Err-Fault-clause-stays
returns-in-Err-Fault-clause-stays g c = (lacks g.J.Journal g.met.J.Journal.only_now c.args.self.now []).stays

pub returns-in-Err-Memory-clause-takes : goal.returns-in-Err-Memory-clause-takes
returns-in-Err-Memory-clause-takes g c = λ received reads. memory_handled g.J.Journal g.met.J.Journal.only_now c.args.self.now (takes (g.J.Journal.entries c.args.self.now) received)

pub returns-in-Err-Memory-clause-stays : goal.returns-in-Err-Memory-clause-stays
returns-in-Err-Memory-clause-stays g c = (lacks g.J.Journal g.met.J.Journal.only_now c.args.self.now []).stays
