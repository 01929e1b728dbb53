use Rattle.std.proofs.Common.{◌∙◌, ap, []}
use Rattle.cap_base.specs.Fits.{all_fit}
use Rattle.cap_host_answers.specs.StaysLegal.{legal_all}
use Rattle.cap_host_answers.proofs.plain.own_log.Goals as goal

pub returns-clause-fit : goal.returns-clause-fit
returns-clause-fit c =
    ap (all_fit []) c.in_ok-own.ensures ∙ c.logs_fit.ensures c.args.entries.now (legal_all c.args.entries.now c.requires) c.args.place
