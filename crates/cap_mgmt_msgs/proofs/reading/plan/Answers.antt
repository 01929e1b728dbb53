use Rattle.std.proofs.Common.{sym, ap, ◌∙◌}
use Rattle.cap_fields.specs.Fields.{all_among}
use Rattle.cap_mgmt_msgs.specs.Reading.{action_in}
use Rattle.cap_mgmt_msgs.proofs.Whole.{plan_is_some, plan_is_few}
use Rattle.cap_mgmt_msgs.proofs.reading.plan.Goals as goal

pub actions-requires : goal.actions-requires
actions-requires c = rw c.children_of.ensures (plan_is_some _ c.requires)

pub unwrap-requires : goal.unwrap-requires
unwrap-requires c = c.new.ensures.exact.1 (plan_is_few _ c.in_ok-found.found.items c.requires (ap (all_among action_in) (sym c.children_of.ensures) ∙ c.in_ok-found.ensures))
