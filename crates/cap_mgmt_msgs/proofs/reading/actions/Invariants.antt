use Rattle.cap_fields.proofs.Repeats.{ReadFrom}
use Rattle.cap_mgmt_msgs.specs.Reading.{action_in}
use Rattle.cap_mgmt_msgs.proofs.reading.actions.Given as goal

abbrev pub invariant-loop-child : goal.invariant-loop-child
invariant-loop-child l = ReadFrom action_in l.children l.child-index l.found.items
