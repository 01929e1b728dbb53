-- The law over every run: the ends agree.
use Rattle.std.specs.Prelude.{◌≡◌, ℕ, List, Some, slice_get}
use Rattle.cap_entries.specs.Settings.{TerminalSettings, HostSettings}
use Rattle.cap_entries.specs.declared.terminal.TermEntry.{TermEntry}
use Rattle.cap_entries.specs.declared.host.HostEntry.{HostEntry}
use Rattle.cap_entries.specs.Log.{log}
use Rattle.cap_plain.specs.Agreed.{Agreed}
use Rattle.cap_world.specs.World.{TerminalState, World, Happening, first, Run, May}
use Rattle.cap_entries.specs.SetUps.{SetUpsMatch}

-- in every world of every run, whatever a power cut may have left at either end
abbrev pub EveryRunAgrees : Type 0
EveryRunAgrees =
    (host : HostSettings) (terminals : List TerminalSettings) (happenings : List Happening) (w : World)
    → SetUpsMatch host terminals → Run (first host terminals) happenings w
    → (place : ℕ) (s : TerminalState) → slice_get w.terminals place ≡ Some s
    → (entries : List TermEntry) → May s.settled s.tried entries
    → (others : List HostEntry) → May w.host.settled w.host.tried others
    → Agreed entries (log others place)
