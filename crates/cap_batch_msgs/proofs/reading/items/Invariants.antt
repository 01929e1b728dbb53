use Rattle.cap_fields.proofs.Repeats.{ReadFrom}
use Rattle.cap_batch_msgs.specs.Reading.{item_in}
use Rattle.cap_batch_msgs.proofs.reading.items.Given as goal

abbrev pub invariant-loop-child : goal.invariant-loop-child
invariant-loop-child l = ReadFrom item_in l.children l.child-index l.found.items
