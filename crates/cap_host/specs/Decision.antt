-- What a host is to do about a message.
use Rattle.std.specs.Prelude.{◌≡◌, ℕ, ◌<◌, ◌≤◌, true, List, [], map, length, Option, Some, ⊤}
use Rattle.cap_base.specs.Fits.{all_fit}
use Rattle.cap_base.specs.declared.item.Item.{Item}
use Rattle.cap_entries.specs.declared.host.HostEntry.{HostEntry}
use Rattle.cap_entries.specs.declared.host.HostEntry.TheVariants.{Took}
use Rattle.cap_entries.specs.Log.{log, setup_of}
use Rattle.cap_host_answers.specs.Answer.{Answered}
use Rattle.cap_host.specs.declared.decision.Decision.{Decision}
use Rattle.cap_host.specs.declared.decision.Decision.TheVariants.{Tells, Takes}

-- what it adds, and its reply
abbrev pub decided : Decision → Answered
decided (Tells reply) = record { added = []; reply = reply }
decided (Takes terminal items body) = record { added = map (Took terminal) items.items; reply = Some body }

-- items that may be added to the log of the terminal at this place, as one group
pub record MayTake (entries : List HostEntry) (terminal : ℕ) (items : List Item) : Type 0 where
  pub within : terminal < length (setup_of entries).terminals
  pub some : 0 < length items
  pub few : length items ≤ 100
  pub fit : all_fit (log entries terminal) items ≡ true

abbrev pub IsSound : List HostEntry → Decision → Type 0
IsSound entries (Tells reply) = ⊤
IsSound entries (Takes terminal items body) = MayTake entries terminal items.items
