use Rattle.cap_host_lines.proofs.Steps.{resting}
use Rattle.cap_host_lines.proofs.calls.rest.Goals as goal

pub returns : goal.returns
returns g c = λ before w. resting c.args.host.now before w (c.stands.ensures.in_all w.works w.told)
