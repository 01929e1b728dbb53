use Rattle.cap_host.specs.Host.{has_failed}
use Rattle.std.proofs.Common.{◌≡◌}
use Rattle.cap_host_lines.proofs.Reading.{heard, read_on}
use Rattle.cap_host_lines.proofs.calls.answer.Goals as goal

pub returns-clause-hears : goal.returns-clause-hears
returns-clause-hears g c = λ received reads before w.
    heard c.args.host.now c.hear-given.new.host c.args.moment received c.hear-given.result c.read_reply.result before (c.hear-given.ensures.told received reads) (c.hear-given.ensures.changes received reads before w)
    c.texts_read_again.ensures.spellable c.read_reply.ensures

pub returns-clause-works : goal.returns-clause-works
returns-clause-works g c = read_on (has_failed c.hear-given.new.host ≡ has_failed c.args.host.now) c.hear-given.result c.read_reply.result c.read_reply.ensures c.hear-given.ensures.works
