-- The laws over every run on journals: whatever a power cut may have left is legal, so the end opens again.
use Rattle.std.specs.Prelude.{◌≡◌, ℕ, List, ◌++◌, take, Some, slice_get}
use Rattle.cap_msgs.specs.declared.message.Message.{Message}
use Rattle.cap_entries.specs.Settings.{TerminalSettings, HostSettings}
use Rattle.cap_entries.specs.declared.terminal.TermEntry.{TermEntry}
use Rattle.cap_entries.specs.declared.host.HostEntry.{HostEntry}
use Rattle.cap_entries.specs.Allowed.{Legal}
use Rattle.cap_entries.specs.HostAllowed.{LegalHost}
use Rattle.cap_world.specs.World.{World, TerminalState, Happening, first, Run, May}
use Rattle.cap_entries.specs.SetUps.{SetUpsMatch}
use Rattle.cap_world.specs.Node.{TerminalTask, TerminalTasks}

abbrev pub EveryTerminalJournalIsLegal : Type 0
EveryTerminalJournalIsLegal =
    (host : HostSettings) (terminals : List TerminalSettings) (happenings : List Happening) (w : World)
    → SetUpsMatch host terminals → Run (first host terminals) happenings w
    → (place : ℕ) (s : TerminalState) → slice_get w.terminals place ≡ Some s
    → (entries : List TermEntry) → May s.settled s.tried entries
    → Legal entries

abbrev pub EveryHostJournalIsLegal : Type 0
EveryHostJournalIsLegal =
    (host : HostSettings) (terminals : List TerminalSettings) (happenings : List Happening) (w : World)
    → SetUpsMatch host terminals → Run (first host terminals) happenings w
    → (others : List HostEntry) → May w.host.settled w.host.tried others
    → LegalHost others

-- for one call alone: whatever a terminal does on its own, or with what arrives, each front of what it adds leaves a legal journal legal
abbrev pub EveryTaskStaysLegal : Type 0
EveryTaskStaysLegal =
    (entries : List TermEntry) (task : TerminalTask) (added : List TermEntry) (put : List Message) (kept : ℕ)
    → Legal entries → TerminalTasks entries task added put
    → Legal (entries ++ take kept added)
