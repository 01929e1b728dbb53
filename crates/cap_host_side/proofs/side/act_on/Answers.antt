use Rattle.std.proofs.Common.{ℕ, List, sym, subst}
use Rattle.cap_schedule.specs.declared.schedule.HostOrder.{HostOrder}
use Rattle.cap_schedule.specs.declared.schedule.HostOrder.TheVariants as W
use Rattle.cap_plays.specs.Texts.{texts_in}
use Rattle.cap_host_lines.specs.Acts.{Acted}
use Rattle.cap_host_side.specs.Sides.{IsGiven}
use Rattle.cap_host_side.proofs.side.act_on.Goals as goal

pub returns-in-Up-clause-acts : goal.returns-in-Up-clause-acts
returns-in-Up-clause-acts c = λ reads w armed ended before reader given ready.
    subst (λ (o : HostOrder). Acted reads c.deliver_of.new.host w c.args.moment o armed ended before c.deliver_of.result) (sym c.in-Up.is)
    (c.deliver_of.ensures.delivers c.in-Up.terminal reads w armed ended before reader (subst (λ (o : HostOrder). IsGiven w o (texts_in c.args.sent.now) c.args.place) c.in-Up.is given) ready)

pub returns-in-Publish-clause-acts : goal.returns-in-Publish-clause-acts
returns-in-Publish-clause-acts c = λ reads w armed ended before reader given ready.
    subst (λ (o : HostOrder). Acted reads c.publish.new.host w c.args.moment o armed ended before c.publish.result) (sym c.in-Publish.is) (c.publish.ensures.acts reads w armed ended before reader ready)

pub returns-in-Listen-clause-acts : goal.returns-in-Listen-clause-acts
returns-in-Listen-clause-acts c = λ reads w armed ended before reader given ready.
    subst (λ (o : HostOrder). Acted reads c.listen.new.host w c.args.moment o armed ended before c.listen.result) (sym c.in-Listen.is)
    (subst (λ (bytes : List ℕ). Acted reads c.listen.new.host w c.args.moment (W.Listen bytes) armed ended before c.listen.result) c.as_slice.ensures (c.listen.ensures.acts reads w armed ended before reader ready))
