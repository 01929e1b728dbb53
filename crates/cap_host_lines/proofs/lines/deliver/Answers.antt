use Rattle.std.proofs.Common.{ℕ, List, sym, subst}
use Rattle.std.specs.Prelude.{◌≡◌, Result, OnOk}
use Rattle.cap_msgs.specs.Received.{Read}
use Rattle.cap_msgs.specs.Reads.{Reads}
use Rattle.cap_host.specs.Host.{has_failed}
use Rattle.cap_schedule.specs.declared.schedule.HostOrder.TheVariants as W
use Rattle.cap_plays.specs.declared.fault.LineFault.{LineFault}
use Rattle.cap_host_lines.specs.declared.said.HostSaid.{HostSaid}
use Rattle.cap_host_lines.specs.Acts.{Acted}
use Rattle.cap_host_lines.proofs.Doing.{delivered_line}
use Rattle.cap_host_lines.proofs.Reading.{counted_on}
use Rattle.cap_host_lines.proofs.lines.deliver.Goals as goal

pub returns-clause-delivers : goal.returns-clause-delivers
returns-clause-delivers g c = λ reads w terminal which message armed ended before ready there text_is place_is.
    let text_reads : Reads c.args.text.now (Read message) = subst (λ (t : List ℕ). Reads t (Read message)) (sym text_is.text_is) (c.texts_read_again.ensures.again message text_is.spellable) in
    subst (λ (r : Result HostSaid LineFault). Acted reads c.answer-given.new.host w c.args.moment (W.Up terminal which) armed ended before r) (sym c.counted.ensures)
    (delivered_line c.args.host.now c.answer-given.new.host reads w c.args.moment c.date_of.ensures.0 terminal which message c.args.place armed ended before c.answer-given.result c.date_of.ensures.1 ready there place_is
    (c.answer-given.ensures.hears (Read message) text_reads before ready.working))

pub returns-clause-works : goal.returns-clause-works
returns-clause-works g c =
    let P : Type 0 = has_failed c.answer-given.new.host ≡ has_failed c.args.host.now in
    subst (λ (r : Result HostSaid LineFault). OnOk r P) (sym c.counted.ensures) (counted_on P c.args.place c.answer-given.result c.answer-given.ensures.works)
