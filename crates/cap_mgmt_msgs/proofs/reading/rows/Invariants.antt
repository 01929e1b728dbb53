use Rattle.cap_fields.proofs.Repeats.{ReadFrom}
use Rattle.cap_mgmt_msgs.specs.Reading.{row_in}
use Rattle.cap_mgmt_msgs.proofs.reading.rows.Given as goal

abbrev pub invariant-loop-child : goal.invariant-loop-child
invariant-loop-child l = ReadFrom row_in l.children l.child-index l.found.items
