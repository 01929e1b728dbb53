use Rattle.std.proofs.Common.{refl, None}
use Rattle.cap_schedule.specs.declared.outcome.Outcome.TheVariants as O
use Rattle.cap_host_lines.proofs.Doing.{missing_line}
use Rattle.cap_host_lines.proofs.lines.missing.Goals as goal

pub returns : goal.returns
returns g c = λ reads w terminal armed ended before ready none.
    missing_line c.args.host.now reads w c.args.moment c.date_of.ensures.0 terminal c.args.which armed ended before (record { outcome = O.NoMessage c.args.which; reply = None }) c.date_of.ensures.1 ready none
    (c.rest.ensures before ready.working) refl refl
