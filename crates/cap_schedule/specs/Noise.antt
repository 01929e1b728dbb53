-- Which lines of noise are in the language.
use Rattle.std.specs.Prelude.{ℕ, Bool, true, ◌&&◌, not, List, Option, Some, None}
use Rattle.cap_msgs.specs.Received.{Received, Read, Unread}
use Rattle.cap_entries.specs.Settings.{TerminalSettings}
use Rattle.cap_schedule.specs.declared.schedule.Order.{Order}
use Rattle.cap_schedule.specs.declared.schedule.Order.TheVariants as T
use Rattle.cap_schedule.specs.declared.schedule.HostOrder.{HostOrder}
use Rattle.cap_schedule.specs.declared.schedule.HostOrder.TheVariants as H
use Rattle.cap_schedule.specs.declared.schedule.Action.{Action}
use Rattle.cap_schedule.specs.declared.schedule.Action.TheVariants.{AtTerminal, AtHost, Reopen}
use Rattle.cap_schedule.specs.SetUps.{is_party}

-- no message whose sender and receiver both are parties of the schedule
abbrev pub is_foreign : List ℕ → List TerminalSettings → Received → Bool
is_foreign host terminals (Unread fault) = true
is_foreign host terminals (Read m) = not (is_party host terminals m.header.from && is_party host terminals m.header.to)

-- the bytes of noise that an action delivers
abbrev pub order_noise : Order → Option (List ℕ)
order_noise (T.Hear bytes) = Some bytes
order_noise _ = None

abbrev pub host_noise : HostOrder → Option (List ℕ)
host_noise (H.Listen bytes) = Some bytes
host_noise _ = None

abbrev pub noise_in : Action → Option (List ℕ)
noise_in (AtTerminal place order) = order_noise order
noise_in (AtHost order) = host_noise order
noise_in (Reopen end) = None

abbrev pub is_noise : (List ℕ → Received) → List ℕ → List TerminalSettings → Option (List ℕ) → Bool
is_noise reads host terminals None = true
is_noise reads host terminals (Some bytes) = is_foreign host terminals (reads bytes)

-- the bytes, where it delivers some, are noise
abbrev pub is_allowed : (List ℕ → Received) → List ℕ → List TerminalSettings → Action → Bool
is_allowed reads host terminals action = is_noise reads host terminals (noise_in action)
