-- What an error of reading says of the bytes.
use Rattle.std.specs.Prelude.{ℕ, ⊤, List}
use Rattle.cap_msgs.specs.declared.error.DecodeError.{DecodeError}
use Rattle.cap_msgs.specs.declared.error.DecodeError.TheVariants.{Fault, Memory}
use Rattle.cap_msgs.specs.Received.{Unread}
use Rattle.cap_msgs.specs.Reads.{Reads}

-- memory ran out, or this is the first fault
abbrev pub IsUnread : List ℕ → DecodeError → Type 0
IsUnread bytes Memory = ⊤
IsUnread bytes (Fault f) = Reads bytes (Unread f)
