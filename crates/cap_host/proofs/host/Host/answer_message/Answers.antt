use Rattle.std.proofs.Common.{◌≡◌, ◌∙◌, refl, sym, ap, subst, arith, List}
use Rattle.std.specs.Prelude.{IfOk}
use Rattle.cap_msgs.specs.Received.{Received, Read}
use Rattle.cap_entries.specs.declared.host.HostEntry.{HostEntry}
use Rattle.cap_host_answers.specs.Answer.{Answered}
use Rattle.cap_host_answers.specs.Received.{answer_received}
use Rattle.cap_host.specs.Reply.{IsReply}
use Rattle.cap_host.specs.Host.{entries_of, fault_of, Adds}
use Rattle.cap_host.proofs.Composed.{reads_adds}
use Rattle.cap_host.proofs.host.Host.answer_message.Goals as goal

pub returns : goal.returns
returns g c =
    let old = c.args.self.now in
    let mid = c.decide_message.new.self in
    let new = c.carry_out.new.self in
    let received : Received = Read c.args.message.now in
    let decided' = c.in_ok-decision.ensures in
    let done = c.carry_out.ensures in
    record {
      told =
          subst (λ (es : List HostEntry). IfOk c.carry_out.result (λ given. IsReply es c.args.moment received (answer_received (entries_of old) received).reply given)) decided'.entries
          (subst (λ (a : Answered). IfOk c.carry_out.result (λ given. IsReply (entries_of mid) c.args.moment received a.reply given)) decided'.told (done.told received refl refl));
      adds =
          reads_adds old mid new (answer_received (entries_of old) received).added (fault_of c.carry_out.result) decided'.reads
          (subst (λ (a : Answered). Adds mid new a.added (fault_of c.carry_out.result)) decided'.told done.adds);
      fetched = omega (arith, decided'.fetched, done.fetched);
    }
