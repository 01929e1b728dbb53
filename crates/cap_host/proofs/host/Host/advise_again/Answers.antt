use Rattle.std.proofs.Common.{◌≡◌, ◌∙◌, sym, subst, true, List}
use Rattle.cap_entries.specs.declared.host.HostEntry.{HostEntry}
use Rattle.cap_entries.specs.Log.{log}
use Rattle.cap_host_answers.specs.Plain.{is_closed_there}
use Rattle.cap_host.specs.Host.{entries_of}
use Rattle.cap_host.proofs.Agreeing.{same_there}
use Rattle.cap_host.proofs.host.Host.advise_again.Goals as goal

pub answer_there-body-requires-clause-there : goal.answer_there-body-requires-clause-there
answer_there-body-requires-clause-there g c =
    subst (λ (es : List HostEntry). is_closed_there (log es c.args.terminal) c.args.item.now ≡ true) (sym c.is_item.ensures.entries)
    (same_there (log (entries_of c.args.self.now) c.args.terminal) c.args.m c.args.item.now (sym c.in_ok-is_item.ensures.value ∙ c.if-branch.true))
