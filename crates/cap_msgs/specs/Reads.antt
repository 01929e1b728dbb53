-- What bytes read as: the message that they spell, or their first fault.
use Rattle.std.specs.Prelude.{ℕ, List}
use Rattle.cap_text.specs.Pieces.{Spells}
use Rattle.cap_text.specs.Faults.{FirstFault}
use Rattle.cap_msgs.specs.Trees.{message_kind, message_tree}
use Rattle.cap_msgs.specs.Received.{Received, Read, Unread}

abbrev pub Reads : List ℕ → Received → Type 0
Reads bytes (Read m) = Spells (message_kind m) (message_tree m) bytes
Reads bytes (Unread f) = FirstFault bytes f
