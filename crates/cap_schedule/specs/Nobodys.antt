-- The noise of a schedule: no message between its parties.
use Rattle.std.specs.Prelude.{◌≡◌, ◌⊎◌, ⊤, ℕ, List, Some, slice_get}
use Rattle.std.specs.List.{AllByRecursion}
use Rattle.cap_msgs.specs.Received.{Received, Read, Unread}
use Rattle.cap_schedule.specs.declared.schedule.Order.{Order}
use Rattle.cap_schedule.specs.declared.schedule.Order.TheVariants.{Hear}
use Rattle.cap_schedule.specs.declared.schedule.HostOrder.{HostOrder}
use Rattle.cap_schedule.specs.declared.schedule.HostOrder.TheVariants.{Listen}
use Rattle.cap_schedule.specs.declared.schedule.Action.{Action}
use Rattle.cap_schedule.specs.declared.schedule.Action.TheVariants.{AtTerminal, AtHost}
use Rattle.cap_schedule.specs.declared.schedule.Line.{Line}
use Rattle.cap_schedule.specs.declared.schedule.Schedule.{Schedule}

-- the host of a schedule, or one of its terminals
abbrev pub IsParty : Schedule → List ℕ → Type 0
IsParty s name = (name ≡ s.host.host) ⊎ ((place : ℕ) × (slice_get s.host.terminals place ≡ Some name))

-- it is no message whose sender and receiver both are parties of the schedule
abbrev pub IsNobodys : Schedule → Received → Type 0
IsNobodys s (Unread fault) = ⊤
IsNobodys s (Read message) = IsParty s message.header.from → IsParty s message.header.to → ⊥

-- the noise of a line is nobody's
abbrev pub IsNoiseOfOrder : (reads : List ℕ → Received) → Schedule → Order → Type 0
IsNoiseOfOrder reads s (Hear bytes) = IsNobodys s (reads bytes)
IsNoiseOfOrder reads s _ = ⊤

abbrev pub IsNoiseOfHostOrder : (reads : List ℕ → Received) → Schedule → HostOrder → Type 0
IsNoiseOfHostOrder reads s (Listen bytes) = IsNobodys s (reads bytes)
IsNoiseOfHostOrder reads s _ = ⊤

abbrev pub IsNoise : (reads : List ℕ → Received) → Schedule → Action → Type 0
IsNoise reads s (AtTerminal place order) = IsNoiseOfOrder reads s order
IsNoise reads s (AtHost order) = IsNoiseOfHostOrder reads s order
IsNoise reads s _ = ⊤

-- the same of each line
abbrev pub NoiseIsNobodys : (reads : List ℕ → Received) → Schedule → Type 0
NoiseIsNobodys reads s = AllByRecursion (λ (line : Line). IsNoise reads s line.action) s.lines
