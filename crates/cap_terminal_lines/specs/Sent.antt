-- What sending a message says.
use Rattle.std.specs.Prelude.{◌≡◌, ⊤, ℕ, ◌+◌, [], ◌∷◌, Result, Ok, Err}
use Rattle.cap_msgs.specs.declared.message.Message.{Message}
use Rattle.cap_schedule.specs.declared.outcome.Outcome.TheVariants.{Sent}
use Rattle.cap_plays.specs.declared.fault.LineFault.{LineFault}
use Rattle.cap_plays.specs.declared.fault.LineFault.TheVariants.{Disk, Memory}
use Rattle.cap_terminal_lines.specs.declared.said.Said.{Said}
use Rattle.cap_plays.specs.Texts.{IsSent}

-- its number, and its text; else memory ran out
abbrev pub SendsText : Message → (sent : ℕ) → Result Said LineFault → Type 0
SendsText message sent (Ok given) = (given.outcome ≡ Sent (sent + 1)) × IsSent given.sent (message ∷ [])
SendsText message sent (Err Disk) = ⊥
SendsText message sent (Err Memory) = ⊤
