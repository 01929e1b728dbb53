-- What judges the bytes of noise.
use Rattle.std.specs.Prelude.{ℕ, List}
use Rattle.cap_msgs.specs.Received.{Received}
use Rattle.cap_msgs.specs.Reads.{Reads}

-- it says what bytes read as
abbrev pub IsReader : (List ℕ → Received) → Type 0
IsReader reads = (bytes : List ℕ) → Reads bytes (reads bytes)
