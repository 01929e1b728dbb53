use Rattle.cap_entries.specs.ItemsLaws.{items-push}
use Rattle.cap_plain.proofs.laws.items_grow.Goals as goal

pub returns : goal.returns
returns c = items-push
