use Rattle.std.specs.Prelude.{slice_get}
use Rattle.cap_plays.specs.Texts.{texts_in}
use Rattle.cap_host_side.proofs.Texts.{sent_text, sent_none}
use Rattle.cap_host_side.proofs.side.deliver_of.Goals as goal

pub returns-in-Some-clause-delivers : goal.returns-in-Some-clause-delivers
returns-in-Some-clause-delivers c = λ terminal reads w armed ended before reader given ready.
    let (message, there, text_is) = sent_text (texts_in c.args.sent.now) (slice_get w.terminals terminal) c.args.which c.in-Some.text.now given.0 c.in-Some.ensures in
    c.deliver.ensures.delivers reads w terminal c.args.which message armed ended before ready there text_is given.1

pub returns-in-None-clause-delivers : goal.returns-in-None-clause-delivers
returns-in-None-clause-delivers c = λ terminal reads w armed ended before reader given ready.
    c.missing.ensures reads w terminal armed ended before ready (sent_none (texts_in c.args.sent.now) (slice_get w.terminals terminal) c.args.which given.0 c.in-None.ensures)
