use Rattle.std.proofs.Common.{sym, subst}
use Rattle.std.specs.Prelude.{◌≡◌, Result, OnOk}
use Rattle.cap_host.specs.Host.{has_failed}
use Rattle.cap_schedule.specs.declared.schedule.HostOrder.TheVariants as W
use Rattle.cap_plays.specs.declared.fault.LineFault.{LineFault}
use Rattle.cap_host_lines.specs.declared.said.HostSaid.{HostSaid}
use Rattle.cap_host_lines.specs.Acts.{Acted}
use Rattle.cap_host_lines.proofs.Doing.{published_line}
use Rattle.cap_host_lines.proofs.lines.publish.Goals as goal

pub returns-clause-acts : goal.returns-clause-acts
returns-clause-acts g c = λ reads w armed ended before reader ready.
    subst (λ (r : Result HostSaid LineFault). Acted reads c.publish_set-given.new.host w c.args.moment (W.Publish c.args.rows.now) armed ended before r) (sym c.published.ensures)
    (published_line c.args.host.now c.publish_set-given.new.host reads w c.args.moment c.date_of.ensures.0 c.args.rows.now armed ended before c.publish_set-given.result c.date_of.ensures.1 ready
    (c.publish_set-given.ensures.publishes before ready.working))

pub returns-clause-works : goal.returns-clause-works
returns-clause-works g c =
    let P : Type 0 = has_failed c.publish_set-given.new.host ≡ has_failed c.args.host.now in
    subst (λ (r : Result HostSaid LineFault). OnOk r P) (sym c.published.ensures) c.publish_set-given.ensures.works
