-- The report on the ends of a network, by the ends themselves.
use Rattle.std.specs.Prelude.{ℕ, suc, List, [], ◌∷◌, ◌++◌}
use Rattle.cap_entries.specs.declared.terminal.TermEntry.{TermEntry}
use Rattle.cap_entries.specs.declared.host.HostEntry.{HostEntry}
use Rattle.cap_entries.specs.Log.{log}
use Rattle.cap_plays.specs.Report.{end_text}
use Rattle.cap_power.specs.declared.power.Power.{Power}
use Rattle.cap_power.specs.declared.power.Power.TheVariants.{On, Off, Lent}
use Rattle.cap_terminal_side.specs.declared.side.Side.{Side}

module _ {T : Type 0} (term_entries : T → List TermEntry) (power : Side → Power T) where
  -- the entries of an end that is on
  abbrev pub entries_in : Power T → List TermEntry
  entries_in (On end) = term_entries end
  entries_in (Off left) = []
  entries_in Lent = []

  -- the report on the terminals of these names from this place on
  abbrev pub sides_text : List HostEntry → (place : ℕ) → List (List ℕ) → List Side → List ℕ
  sides_text taken place [] sides = []
  sides_text taken place (id ∷ ids) [] = []
  sides_text taken place (id ∷ ids) (side ∷ sides) = end_text id (entries_in (power side)) (log taken place) ++ sides_text taken (suc place) ids sides
