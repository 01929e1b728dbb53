-- The laws over every run on parameter sets: the set in force is one that the host published, and it never goes back.
use Rattle.std.specs.Prelude.{◌≡◌, ◌⊎◌, ℕ, ◌-◌, ◌≤◌, List, Some, slice_get}
use Rattle.cap_entries.specs.Settings.{TerminalSettings, HostSettings}
use Rattle.cap_entries.specs.declared.terminal.TermEntry.{TermEntry}
use Rattle.cap_entries.specs.declared.host.HostEntry.{HostEntry}
use Rattle.cap_entries.specs.InForce.{version_in_force, rows_in_force}
use Rattle.cap_entries.specs.Log.{published}
use Rattle.cap_world.specs.World.{World, TerminalState, Happening, first, Run, May}
use Rattle.cap_entries.specs.SetUps.{SetUpsMatch}

-- version 0, or a set that was published, with exactly its rows
abbrev pub SetIsPublished : List HostEntry → List TermEntry → Type 0
SetIsPublished others entries =
    (version_in_force entries ≡ 0)
    ⊎ ((1 ≤ version_in_force entries) × (slice_get (published others) (version_in_force entries - 1) ≡ Some (rows_in_force entries)))

abbrev pub EverySetIsPublished : Type 0
EverySetIsPublished =
    (host : HostSettings) (terminals : List TerminalSettings) (happenings : List Happening) (w : World)
    → SetUpsMatch host terminals → Run (first host terminals) happenings w
    → (place : ℕ) (s : TerminalState) → slice_get w.terminals place ≡ Some s
    → (entries : List TermEntry) → May s.settled s.tried entries
    → (others : List HostEntry) → May w.host.settled w.host.tried others
    → SetIsPublished others entries

-- whatever an end may have later has at least the version that was settled earlier
abbrev pub NoSetGoesBack : Type 0
NoSetGoesBack =
    (host : HostSettings) (terminals : List TerminalSettings) (earlier later : List Happening) (v w : World)
    → SetUpsMatch host terminals → Run (first host terminals) earlier v → Run v later w
    → (place : ℕ) (s t : TerminalState) → slice_get v.terminals place ≡ Some s → slice_get w.terminals place ≡ Some t
    → (entries : List TermEntry) → May t.settled t.tried entries
    → version_in_force s.settled ≤ version_in_force entries
