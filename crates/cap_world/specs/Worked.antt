-- Two small runs, so that one sees that the steps can be made.
use Rattle.std.specs.Prelude.{◌≡◌, ℕ, List, [], ◌∷◌, length, Option, Some, None, slice_get, codes}
use Rattle.cap_base.specs.Captured.{captured}
use Rattle.cap_leaf.specs.Date.{DateParts}
use Rattle.cap_leaf.specs.declared.zone.Zone.TheVariants.{Utc}
use Rattle.cap_msgs.specs.Moment.{IsMoment}
use Rattle.cap_entries.specs.Settings.{TerminalSettings, HostSettings}
use Rattle.cap_entries.specs.Items.{items}
use Rattle.cap_entries.specs.Acked.{acked}
use Rattle.cap_entries.specs.Log.{log}
use Rattle.cap_terminal_answers.specs.Does.{Leave}
use Rattle.cap_terminal_answers.specs.Sends.{Head}
use Rattle.cap_answering.specs.Steps.{Acts, Interrupted, Restart}
use Rattle.cap_world.specs.World.{TerminalState, World, Begins, Offline, Gives_up, Closes, Sends_message, Takes_answer, Answers, Happening, At_terminal, At_host, first, Run}
use Rattle.cap_entries.specs.SetUps.{SetUpsMatch}

abbrev pub small_start : DateParts
small_start = record { year = 2024; month = 1; day = 1; hour = 0; minute = 0; second = 0; millis = None; zone = Utc }

abbrev pub small_host : HostSettings
small_host = record { host = codes "ACQ1"; limit = 50000; blocked = codes "411111" ∷ []; poll = 60; start = small_start; terminals = codes "T1" ∷ [] }

abbrev pub small_terminal : TerminalSettings
small_terminal = record { terminal = codes "T1"; host = codes "ACQ1"; max = 1000; floor = 2000 }

abbrev pub an_account : List ℕ
an_account = codes "4000001234567899"

-- how many items a terminal has, how many are acknowledged, how many stand in its log, how many sales are captured
abbrev pub counts_at : World → ℕ → Option TerminalState → Option (ℕ × ℕ × ℕ × ℕ)
counts_at w place None = None
counts_at w place (Some s) = Some (length (items s.settled), acked s.settled, length (log w.host.settled place), length (captured (log w.host.settled place)))

abbrev pub counts_of : World → ℕ → Option (ℕ × ℕ × ℕ × ℕ)
counts_of w place = counts_at w place (slice_get w.terminals place)

-- a sale within the floor, its advice, and the answer
unfoldable pub first_sale : List Happening
first_sale =
    At_terminal 0 (Acts (Begins 1250 an_account)) ∷ At_terminal 0 (Acts (Offline 1)) ∷ At_terminal 0 (Acts (Sends_message (Head 0) 1700000005))
    ∷ At_host (Acts (Answers 0 0 1700000006)) ∷ At_terminal 0 (Acts (Takes_answer 0 Leave)) ∷ []

-- the power goes while a sale is completed, nothing of it stands, and the sale is given up
unfoldable pub interrupted_sale : List Happening
interrupted_sale =
    At_terminal 0 (Acts (Begins 1250 an_account)) ∷ At_terminal 0 (Interrupted (Offline 1)) ∷ At_terminal 0 (Restart 0)
    ∷ At_terminal 0 (Acts (Gives_up 1)) ∷ []

-- the answer of a sale is lost, the power goes at both ends within what they do, both are opened again with nothing of it, and the sale is sent, accepted and acknowledged
unfoldable pub settled_sale : List Happening
settled_sale =
    At_terminal 0 (Acts (Begins 1250 an_account)) ∷ At_terminal 0 (Acts (Offline 1)) ∷ At_terminal 0 (Acts (Sends_message (Head 0) 1700000005))
    ∷ At_host (Acts (Answers 0 0 1700000006)) ∷ At_terminal 0 (Interrupted Closes) ∷ At_host (Interrupted (Answers 0 0 1700000006))
    ∷ At_host (Restart 0) ∷ At_terminal 0 (Restart 0)
    ∷ At_terminal 0 (Acts (Sends_message (Head 0) 1700000005)) ∷ At_host (Acts (Answers 0 1 1700000006)) ∷ At_terminal 0 (Acts (Takes_answer 1 Leave)) ∷ []

-- the set-ups match, and these happenings are a run that ends with these counts
pub record SmallRun (happenings : List Happening) (counts : ℕ × ℕ × ℕ × ℕ) : Type 0 where
  pub match : SetUpsMatch small_host (small_terminal ∷ [])
  pub last : World
  pub run : Run (first small_host (small_terminal ∷ [])) happenings last
  pub counted : counts_of last 0 ≡ Some counts

-- at each date and time that shows the moments of its messages
abbrev pub FirstSaleIsARun : Type 0
FirstSaleIsARun = (sent answered : DateParts) → IsMoment 1700000005 sent → IsMoment 1700000006 answered → SmallRun first_sale (1, 1, 1, 1)

abbrev pub InterruptedSaleIsARun : Type 0
InterruptedSaleIsARun = SmallRun interrupted_sale (1, 0, 0, 0)

abbrev pub SettledSaleIsARun : Type 0
SettledSaleIsARun = (sent answered : DateParts) → IsMoment 1700000005 sent → IsMoment 1700000006 answered → SmallRun settled_sale (1, 1, 1, 1)
