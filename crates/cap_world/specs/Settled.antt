-- No run is a dead end: from every world of every run there is a way on after which nothing waits.
use Rattle.std.specs.Prelude.{◌≡◌, ℕ, zero, suc, ◌+◌, ◌*◌, true, if◌then◌else◌, List, [], ◌∷◌, ◌++◌, length, take, Some, slice_get}
use Rattle.std.specs.List.{AllByRecursion}
use Rattle.cap_base.specs.declared.item.Item.{Item}
use Rattle.cap_base.specs.Captured.{captured, totals}
use Rattle.cap_leaf.specs.Date.{DateParts}
use Rattle.cap_msgs.specs.Moment.{IsMoment}
use Rattle.cap_entries.specs.Settings.{TerminalSettings, HostSettings}
use Rattle.cap_entries.specs.SetUps.{SetUpsMatch}
use Rattle.cap_entries.specs.Items.{items}
use Rattle.cap_entries.specs.Log.{log}
use Rattle.cap_plain.specs.Queue.{queue}
use Rattle.cap_plain.specs.KeptSales.{kept_sales}
use Rattle.cap_terminal_answers.specs.Does.{Leave}
use Rattle.cap_terminal_answers.specs.Sends.{Head}
use Rattle.cap_answering.specs.Steps.{Acts, Restart}
use Rattle.cap_world.specs.World.{TerminalState, HostState, World, Sends_message, Takes_answer, Answers, Happening, At_terminal, At_host, first, Run}

-- a terminal once it is on: where it was off, so many of the entries that an interrupted call tried stand
abbrev pub opened : (kept : ℕ) → TerminalState → TerminalState
opened kept s = if s.on then s else record { settled = s.settled ++ take kept s.tried; tried = []; on = true; sent = s.sent; answers = s.answers }

abbrev pub opened_host : (held : ℕ) → HostState → HostState
opened_host held host = if host.on then host else record { settled = host.settled ++ take held host.tried; tried = []; on = true }

-- one opening of each end that is off; terminals count on from the first argument
abbrev pub openings : (place : ℕ) → (kept : ℕ → ℕ) → List TerminalState → List Happening
openings place kept [] = []
openings place kept (s ∷ terminals) = (if s.on then [] else At_terminal place (Restart (kept place)) ∷ []) ++ openings (suc place) kept terminals

abbrev pub restarts : World → (held : ℕ) → (kept : ℕ → ℕ) → List Happening
restarts w held kept = (if w.host.on then [] else At_host (Restart held) ∷ []) ++ openings 0 kept w.terminals

-- the first item of a queue is sent; a message that was sent arrives at the host; an answer arrives at its terminal
abbrev pub IsWork : Happening → Type 0
IsWork (At_terminal place (Acts (Sends_message (Head repeat) moment))) = Unit {0}
IsWork (At_host (Acts (Answers terminal which moment))) = Unit {0}
IsWork (At_terminal place (Acts (Takes_answer which Leave))) = Unit {0}
IsWork _ = ⊥

-- how many items wait once all terminals are on
abbrev pub waiting : (place : ℕ) → (kept : ℕ → ℕ) → List TerminalState → ℕ
waiting place kept [] = 0
waiting place kept (s ∷ terminals) = length (queue (opened (kept place) s).settled) + waiting (suc place) kept terminals

-- a terminal is on and nothing waits; its items are those that it had when it was opened; the host has captured what it kept, and its periods have the same totals at both ends
pub record IsSettled (before after : TerminalState) (host : List Item) : Type 0 where
  pub on : after.on ≡ true
  pub empty : queue after.settled ≡ []
  pub same : items after.settled ≡ items before.settled
  pub capture : captured host ≡ kept_sales after.settled
  pub periods : (p : ℕ) → totals host p ≡ totals (items after.settled) p

pub record Settles (w : World) (kept : ℕ → ℕ) (new : World) : Type 0 where
  pub host : new.host.on ≡ true
  pub terminals : (place : ℕ) (s : TerminalState) → slice_get w.terminals place ≡ Some s
      → (after : TerminalState) × (slice_get new.terminals place ≡ Some after) × IsSettled (opened (kept place) s) after (log new.host.settled place)

-- whatever stands of what was tried, and at each moment that has a date and time: the ends that are off are opened, and three happenings an item that waits lead on to a world in which nothing waits
abbrev pub EveryRunCanSettle : Type 0
EveryRunCanSettle =
    (host : HostSettings) (terminals : List TerminalSettings) (happenings : List Happening) (w : World)
    → SetUpsMatch host terminals → Run (first host terminals) happenings w
    → (held : ℕ) (kept : ℕ → ℕ) (moment : ℕ) (created : DateParts) → IsMoment moment created
    → (work : List Happening) × (new : World)
    × AllByRecursion IsWork work × (length work ≡ 3 * waiting 0 kept w.terminals)
    × Run w (restarts w held kept ++ work) new × Settles w kept new
