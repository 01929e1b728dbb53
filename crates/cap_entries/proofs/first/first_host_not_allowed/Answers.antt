use Rattle.std.proofs.Common.{◌∙◌, sym}
use Rattle.std.proofs.lemmas.Result.{IfOk-weaker}
use Rattle.cap_entries.specs.FirstLaws.{none_all_host, legal_host_exactly}
use Rattle.cap_entries.proofs.first.first_host_not_allowed.Goals as goal

pub returns-clause-legal : goal.returns-clause-legal
returns-clause-legal c =
    IfOk-weaker c.first_host_of.result _ _
    (λ first is. (
      (λ none. (legal_host_exactly c.args.entries.now).0 (sym is ∙ none)),
      (λ legal. is ∙ (legal_host_exactly c.args.entries.now).1 legal),
    ))
    c.first_host_of.ensures

pub returns-clause-allowed : goal.returns-clause-allowed
returns-clause-allowed c = IfOk-weaker c.first_host_of.result _ _ (λ first is none. none_all_host c.args.entries.now (sym is ∙ none)) c.first_host_of.ensures
