use Rattle.cap_plain.specs.AgreedLaws.{agreed_from_front}
use Rattle.cap_plain.proofs.laws.fronts_agree.Goals as goal

pub returns : goal.returns
returns c = agreed_from_front
