use Rattle.cap_link.specs.Lines.{puts_nothing}
use Rattle.cap_drive.proofs.answer.put_reply.Goals as goal

pub returns-in_default-clause-bytes : goal.returns-in_default-clause-bytes
returns-in_default-clause-bytes g c = λ told. puts_nothing _ _ (g.met.L.Link.shows_open c.args.link.now told c.requires.open)
