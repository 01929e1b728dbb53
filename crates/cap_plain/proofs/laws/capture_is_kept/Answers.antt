use Rattle.cap_plain.specs.KeptLaws.{captured_items}
use Rattle.cap_plain.proofs.laws.capture_is_kept.Goals as goal

pub returns : goal.returns
returns c = captured_items
