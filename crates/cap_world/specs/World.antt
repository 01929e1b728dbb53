-- The world of one host and its terminals, and what may happen in it.
use Rattle.std.specs.Prelude.{◌≡◌, ℕ, zero, suc, ◌+◌, ◌<◌, Bool, true, false, List, [], ◌∷◌, ◌++◌, length, take, map, Option, Some, None, slice_get, slice_set}
use Rattle.std.proofs.Common.{subst, refl}
use Rattle.cap_base.specs.declared.parameters.Row.{Row}
use Rattle.cap_msgs.specs.declared.message.Message.{Message}
use Rattle.cap_msgs.specs.Received.{Received, Read}
use Rattle.cap_entries.specs.Settings.{TerminalSettings, HostSettings}
use Rattle.cap_entries.specs.declared.terminal.TermEntry.{TermEntry}
use Rattle.cap_entries.specs.declared.terminal.TermEntry.TheVariants.{Setup}
use Rattle.cap_entries.specs.declared.host.HostEntry.{HostEntry}
use Rattle.cap_entries.specs.declared.host.HostEntry.TheVariants.{Setup as Host_setup, Published}
use Rattle.cap_entries.specs.Log.{published}
use Rattle.cap_host_answers.specs.Received.{answer_received, Replies, place_named, IsForeign}
use Rattle.cap_terminal_answers.specs.Takes.{takes, IsNotOurs}
use Rattle.cap_terminal_answers.specs.Does.{Begins_sale, Completes_offline, Gives_up_sale, Cancels_sale, Closes_period, Decision, Decides}
use Rattle.cap_terminal_answers.specs.Sends.{Sending, Sends}
use Rattle.cap_answering.specs.Steps.{Event, Acts, Interrupted, Restart, Interrupted_restart}

-- a terminal: its journal, what an interrupted call may have added, whether it is on, and every message that it sent or was sent
pub record TerminalState : Type 0 where
  pub settled : List TermEntry
  pub tried : List TermEntry
  pub on : Bool
  pub sent : List Message
  pub answers : List Message

pub record HostState : Type 0 where
  pub settled : List HostEntry
  pub tried : List HostEntry
  pub on : Bool

pub record World : Type 0 where
  pub host : HostState
  pub terminals : List TerminalState

-- what a terminal does
pub data TerminalAction : Type 0 where
  Begins : (amount : ℕ) → (account : List ℕ) → TerminalAction
  Offline : (n : ℕ) → TerminalAction
  Gives_up : (n : ℕ) → TerminalAction
  Cancels : (n : ℕ) → TerminalAction
  Closes : TerminalAction
  Sends_message : Sending → (moment : ℕ) → TerminalAction
  -- one of the messages that it was sent arrives, for the first time or again
  Takes_answer : (which : ℕ) → Decision → TerminalAction
  -- bytes arrive that aren't a message from its host to it
  Hears_foreign : Received → TerminalAction

-- what it adds to the journal, and what it sends
abbrev pub TerminalDoes : TerminalState → TerminalAction → List TermEntry → List Message → Type 0
TerminalDoes s (Begins amount account) added sent = Begins_sale s.settled amount account added × (sent ≡ [])
TerminalDoes s (Offline n) added sent = Completes_offline s.settled n added × (sent ≡ [])
TerminalDoes s (Gives_up n) added sent = Gives_up_sale s.settled n added × (sent ≡ [])
TerminalDoes s (Cancels n) added sent = Cancels_sale s.settled n added × (sent ≡ [])
TerminalDoes s Closes added sent = Closes_period s.settled added × (sent ≡ [])
TerminalDoes s (Sends_message what moment) added sent =
    (message : Message) × Sends s.settled what moment message × (added ≡ []) × (sent ≡ message ∷ [])
TerminalDoes s (Takes_answer which decision) added sent =
    (message : Message) × (decided : List TermEntry) × (slice_get s.answers which ≡ Some message)
    × Decides s.settled (takes s.settled (Read message)).answer decision decided
    × (added ≡ (takes s.settled (Read message)).added ++ decided) × (sent ≡ [])
TerminalDoes s (Hears_foreign received) added sent = IsNotOurs s.settled received × (added ≡ []) × (sent ≡ [])

abbrev pub TerminalStep : TerminalState → Event TerminalAction → TerminalState → Type 0
TerminalStep s (Acts action) new =
    (added : List TermEntry) × (sent : List Message) × (s.on ≡ true) × TerminalDoes s action added sent
    × (new ≡ record { settled = s.settled ++ added; tried = []; on = true; sent = s.sent ++ sent; answers = s.answers })
TerminalStep s (Interrupted action) new =
    (added : List TermEntry) × (sent : List Message) × (s.on ≡ true) × TerminalDoes s action added sent
    × (new ≡ record { settled = s.settled; tried = added; on = false; sent = s.sent; answers = s.answers })
TerminalStep s (Restart kept) new =
    new ≡ record { settled = s.settled ++ take kept s.tried; tried = []; on = true; sent = s.sent; answers = s.answers }
TerminalStep s (Interrupted_restart (Some kept)) new =
    new ≡ record { settled = s.settled ++ take kept s.tried; tried = []; on = false; sent = s.sent; answers = s.answers }
TerminalStep s (Interrupted_restart None) new =
    new ≡ record { settled = s.settled; tried = s.tried; on = false; sent = s.sent; answers = s.answers }

-- what the host does
pub data HostAction : Type 0 where
  -- one of the messages that a terminal sent arrives, for the first time or again
  Answers : (terminal which moment : ℕ) → HostAction
  -- bytes arrive that aren't a message of a terminal of its set-up to it
  Answers_foreign : Received → (moment : ℕ) → HostAction
  Publishes : List Row → HostAction

-- what it adds to the journal, and what it sends to the terminal at a place
abbrev pub HostDoes : World → HostAction → List HostEntry → (receiver : ℕ) → List Message → Type 0
HostDoes w (Answers terminal which moment) added receiver replies =
    (s : TerminalState) × (message : Message) × (slice_get w.terminals terminal ≡ Some s) × (slice_get s.sent which ≡ Some message)
    × (added ≡ (answer_received w.host.settled (Read message)).added)
    × (receiver ≡ terminal)
    × Replies w.host.settled moment (Read message) (answer_received w.host.settled (Read message)).reply replies
HostDoes w (Answers_foreign received moment) added receiver replies =
    IsForeign w.host.settled received
    × (added ≡ (answer_received w.host.settled received).added)
    × (receiver ≡ place_named w.host.settled received)
    × Replies w.host.settled moment received (answer_received w.host.settled received).reply replies
HostDoes w (Publishes rows) added receiver replies =
    (length (published w.host.settled) < 10000)
    × (added ≡ Published (length (published w.host.settled) + 1) rows ∷ []) × (replies ≡ [])

-- messages arrive in the list of the terminal at a place, if there is one
abbrev pub delivered : List TerminalState → ℕ → List Message → List TerminalState
delivered [] place messages = []
delivered (s ∷ terminals) zero messages = record { settled = s.settled; tried = s.tried; on = s.on; sent = s.sent; answers = s.answers ++ messages } ∷ terminals
delivered (s ∷ terminals) (suc place) messages = s ∷ delivered terminals place messages

abbrev pub HostStep : World → Event HostAction → World → Type 0
HostStep w (Acts action) new =
    (added : List HostEntry) × (receiver : ℕ) × (replies : List Message)
    × (w.host.on ≡ true) × HostDoes w action added receiver replies
    × (new ≡ record {
      host = record { settled = w.host.settled ++ added; tried = []; on = true };
      terminals = delivered w.terminals receiver replies;
    })
HostStep w (Interrupted action) new =
    (added : List HostEntry) × (receiver : ℕ) × (replies : List Message)
    × (w.host.on ≡ true) × HostDoes w action added receiver replies
    × (new ≡ record { host = record { settled = w.host.settled; tried = added; on = false }; terminals = w.terminals })
HostStep w (Restart kept) new =
    new ≡ record { host = record { settled = w.host.settled ++ take kept w.host.tried; tried = []; on = true }; terminals = w.terminals }
HostStep w (Interrupted_restart (Some kept)) new =
    new ≡ record { host = record { settled = w.host.settled ++ take kept w.host.tried; tried = []; on = false }; terminals = w.terminals }
HostStep w (Interrupted_restart None) new =
    new ≡ record { host = record { settled = w.host.settled; tried = w.host.tried; on = false }; terminals = w.terminals }

-- an event of the world
pub data Happening : Type 0 where
  At_terminal : (place : ℕ) → Event TerminalAction → Happening
  At_host : Event HostAction → Happening

abbrev pub Step : World → Happening → World → Type 0
Step w (At_terminal place event) new =
    (before : TerminalState) × (after : TerminalState) × (slice_get w.terminals place ≡ Some before)
    × TerminalStep before event after
    × (new ≡ record { host = w.host; terminals = slice_set w.terminals place after })
Step w (At_host event) new = HostStep w event new

abbrev pub started : TerminalSettings → TerminalState
started settings = record { settled = Setup settings ∷ []; tried = []; on = true; sent = []; answers = [] }

-- the first world: each journal is a set-up alone, all ends are on, and nothing was sent
abbrev pub first : HostSettings → List TerminalSettings → World
first host terminals = record {
  host = record { settled = Host_setup host ∷ []; tried = []; on = true };
  terminals = map started terminals;
}

-- these happenings lead from one world to the other
abbrev pub Run : World → List Happening → World → Type 0
Run w [] new = new ≡ w
Run w (happening ∷ happenings) new = (next : World) × Step w happening next × Run next happenings new

-- a list of entries that an end may have: what is settled, and a front of what was tried
abbrev pub May : {Entry : Type 0} → List Entry → List Entry → List Entry → Type 0
May settled tried entries = (kept : ℕ) × (entries ≡ settled ++ take kept tried)

-- one more happening
pub run_push : (w mid new : World) (happenings : List Happening) (happening : Happening) → Run w happenings mid → Step mid happening new → Run w (happenings ++ happening ∷ []) new
run_push w mid new [] happening is step = (new, subst (λ v. Step v happening new) is step, refl)
run_push w mid new (other ∷ happenings) happening (next, first', run) step = (next, first', run_push next mid new happenings happening run step)
