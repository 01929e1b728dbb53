use Rattle.std.proofs.Common.{◌≡◌, ◌∙◌, refl, sym, ap, subst, arith}
use Rattle.std.specs.Prelude.{IfOk}
use Rattle.cap_msgs.specs.Received.{Received, Unread}
use Rattle.cap_host_answers.specs.Answer.{Answered}
use Rattle.cap_host_answers.specs.Received.{answer_received}
use Rattle.cap_host.specs.Decision.{decided}
use Rattle.cap_host.specs.Reply.{IsReply}
use Rattle.cap_host.specs.Host.{entries_of, fault_of, Adds}
use Rattle.cap_host.proofs.host.Host.answer_unread.Goals as goal

pub tells-decision-requires : goal.tells-decision-requires
tells-decision-requires g c = ap (λ (a : Answered). a.added) (c.answer_fault.ensures (entries_of c.args.self.now))

pub returns : goal.returns
returns g c =
    let host = c.args.self.now in
    let received : Received = Unread c.args.fault.now in
    let is : decided c.tells-decision.result ≡ answer_received (entries_of host) received = c.tells-decision.ensures.decided ∙ c.answer_fault.ensures (entries_of host) in
    let done = c.carry_out.ensures in
    record {
      told = subst (λ (a : Answered). IfOk c.carry_out.result (λ given. IsReply (entries_of host) c.args.moment received a.reply given)) is (done.told received refl c.name.ensures);
      adds = subst (λ (a : Answered). Adds host c.carry_out.new.self a.added (fault_of c.carry_out.result)) is done.adds;
      fetched = omega (arith, done.fetched);
    }
