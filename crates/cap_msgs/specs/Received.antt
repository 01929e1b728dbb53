-- What bytes are: a message, or no document.
use Rattle.cap_leaf.specs.declared.fault.Fault.{Fault}
use Rattle.cap_msgs.specs.declared.message.Message.{Message}

-- the message that they spell, or their first fault
pub data Received : Type 0 where
  Read : Message → Received
  Unread : Fault → Received
