use Rattle.std.proofs.Common.{sym, ap, ◌∙◌}
use Rattle.cap_fields.specs.Fields.{all_among}
use Rattle.cap_batch_msgs.specs.Reading.{item_in}
use Rattle.cap_batch_msgs.proofs.Whole.{batch_is_some, batch_is_few}
use Rattle.cap_batch_msgs.proofs.reading.batch.Goals as goal

pub items-requires : goal.items-requires
items-requires c = rw c.children_of.ensures (batch_is_some _ c.requires)

pub unwrap-requires : goal.unwrap-requires
unwrap-requires c = c.new.ensures.exact.1 (batch_is_few _ c.in_ok-found.found.items c.requires (ap (all_among item_in) (sym c.children_of.ensures) ∙ c.in_ok-found.ensures))
