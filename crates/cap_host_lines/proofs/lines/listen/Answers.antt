use Rattle.std.proofs.Common.{sym, subst}
use Rattle.std.specs.Prelude.{◌≡◌, Result, OnOk}
use Rattle.cap_host.specs.Host.{has_failed}
use Rattle.cap_schedule.specs.declared.schedule.HostOrder.TheVariants as W
use Rattle.cap_plays.specs.declared.fault.LineFault.{LineFault}
use Rattle.cap_host_lines.specs.declared.said.HostSaid.{HostSaid}
use Rattle.cap_host_lines.specs.Acts.{Acted}
use Rattle.cap_host_lines.proofs.Doing.{listened_line}
use Rattle.cap_host_lines.proofs.Reading.{dropped_on}
use Rattle.cap_host_lines.proofs.lines.listen.Goals as goal

pub returns-clause-acts : goal.returns-clause-acts
returns-clause-acts g c = λ reads w armed ended before reader ready.
    subst (λ (r : Result HostSaid LineFault). Acted reads c.answer-given.new.host w c.args.moment (W.Listen c.args.bytes.now) armed ended before r) (sym c.dropped.ensures)
    (listened_line c.args.host.now c.answer-given.new.host reads w c.args.moment c.date_of.ensures.0 c.args.bytes.now armed ended before c.answer-given.result c.date_of.ensures.1 ready
    (c.answer-given.ensures.hears (reads c.args.bytes.now) (reader c.args.bytes.now) before ready.working))

pub returns-clause-works : goal.returns-clause-works
returns-clause-works g c =
    let P : Type 0 = has_failed c.answer-given.new.host ≡ has_failed c.args.host.now in
    subst (λ (r : Result HostSaid LineFault). OnOk r P) (sym c.dropped.ensures) (dropped_on P c.answer-given.result c.answer-given.ensures.works)
