-- The text of a run: a line for each outcome, and the report of the last scene.
use Rattle.std.specs.Prelude.{ℕ, suc, ◌-◌, ◌/◌, ◌%◌, List, [], ◌∷◌, ◌++◌, length, if◌then◌else◌, nat_le, count_by, codes}
use Rattle.std.specs.List.{sum_by, concat}
use Rattle.std.specs.Fmt.{decimal}
use Rattle.cap_base.specs.declared.item.Item.{Item}
use Rattle.cap_base.specs.declared.item.Item.TheVariants.{Close}
use Rattle.cap_base.specs.declared.item.Totals.{Totals}
use Rattle.cap_base.specs.Item.{sale_amount}
use Rattle.cap_base.specs.Captured.{captured, period_totals}
use Rattle.cap_entries.specs.Settings.{TerminalSettings}
use Rattle.cap_entries.specs.declared.terminal.TermEntry.{TermEntry}
use Rattle.cap_entries.specs.Entry.{is_any_begin, is_any_closed}
use Rattle.cap_entries.specs.Items.{items}
use Rattle.cap_entries.specs.Acked.{acked}
use Rattle.cap_entries.specs.InForce.{version_in_force}
use Rattle.cap_entries.specs.Log.{log}
use Rattle.cap_terminal_answers.specs.Counts.{is_any_completed, is_any_cancelled, is_any_voided}
use Rattle.cap_schedule.specs.Outcomes.{outcome_lines}
use Rattle.cap_schedule.specs.declared.schedule.Schedule.{Schedule}
use Rattle.cap_world.specs.World.{TerminalState}
use Rattle.cap_plays.specs.declared.numbers.TerminalNumbers.{TerminalNumbers}
use Rattle.cap_plays.specs.Turns.{Scene}
use Rattle.cap_plays.specs.Plays.{Played}

-- the numbers of a terminal's line
abbrev pub numbers_of : List TermEntry → TerminalNumbers
numbers_of entries = record {
  sales = count_by is_any_begin entries;
  completed = count_by is_any_completed entries;
  cancelled = count_by is_any_cancelled entries;
  voided = count_by is_any_voided entries;
  periods = count_by is_any_closed entries;
  items = length (items entries);
  acked = acked entries;
  version = version_in_force entries;
}

unfoldable pub sales_text : TerminalNumbers → List ℕ
sales_text c =
    concat (codes "sales " ∷ decimal c.sales ∷ codes " completed " ∷ decimal c.completed ∷ codes " cancelled " ∷ decimal c.cancelled ∷ codes " voided " ∷ decimal c.voided ∷ codes " periods " ∷ [])

unfoldable pub items_text : TerminalNumbers → List ℕ
items_text c =
    concat (decimal c.periods ∷ codes " items " ∷ decimal c.items ∷ codes " acked " ∷ decimal c.acked ∷ codes " set " ∷ decimal c.version ∷ [])

-- the numbers alone, and as a line
abbrev pub numbers_text : TerminalNumbers → List ℕ
numbers_text numbers = sales_text numbers ++ items_text numbers

abbrev pub numbers_line : TerminalNumbers → List ℕ
numbers_line numbers = numbers_text numbers ++ 10 ∷ []

abbrev pub terminal_line : List ℕ → TerminalNumbers → List ℕ
terminal_line id numbers = codes "terminal " ++ id ++ codes " " ++ numbers_line numbers

abbrev pub terminal_text : List ℕ → List TermEntry → List ℕ
terminal_text id entries = terminal_line id (numbers_of entries)

-- a sum of money, in hundredths, with two decimals, and what follows it
abbrev pub money_then : ℕ → List (List ℕ) → List (List ℕ)
money_then sum rest = decimal (sum / 100) ∷ codes "." ∷ decimal (sum / 10 % 10) ∷ decimal (sum % 10) ∷ rest

unfoldable pub host_numbers : ℕ → ℕ → ℕ → List ℕ
host_numbers len count sum = concat (codes " log " ∷ decimal len ∷ codes " captured " ∷ decimal count ∷ codes " " ∷ money_then sum ((10 ∷ []) ∷ []))

abbrev pub amounts : List Item → ℕ
amounts taken = sum_by sale_amount taken

abbrev pub host_line : List ℕ → ℕ → ℕ → ℕ → List ℕ
host_line id len count sum = codes "host " ++ id ++ host_numbers len count sum

-- a terminal's log at the host, and what is captured of it
abbrev pub host_text : List ℕ → List Item → List ℕ
host_text id taken = host_line id (length taken) (length (captured taken)) (amounts (captured taken))

-- what a period sold, and what was cancelled in it
unfoldable pub sold_text : ℕ → Totals → List ℕ
sold_text p totals = concat (codes " " ∷ decimal p ∷ codes " sales " ∷ decimal totals.sales ∷ codes " " ∷ money_then totals.sales_sum (codes " cancels " ∷ []))

unfoldable pub cancelled_text : Totals → List ℕ
cancelled_text totals = concat (decimal totals.cancels ∷ codes " " ∷ money_then totals.cancels_sum ((10 ∷ []) ∷ []))

abbrev pub period_text : List ℕ → ℕ → Totals → List ℕ
period_text id p totals = codes "period " ++ id ++ sold_text p totals ++ cancelled_text totals

-- a line for each closing in the log, with the host's totals
abbrev pub period_lines : List ℕ → (taken : List Item) → List Item → List ℕ
period_lines id taken [] = []
period_lines id taken (Close p totals ∷ more) = period_text id p (period_totals taken p) ++ period_lines id taken more
period_lines id taken (_ ∷ more) = period_lines id taken more

-- the host has all items, or so many are missing at its end
abbrev pub verdict_of : List ℕ → ℕ → ℕ → List ℕ
verdict_of id len taken =
    if nat_le len taken then codes "verdict " ++ id ++ codes " agree" ++ 10 ∷ []
    else codes "verdict " ++ id ++ codes " behind " ++ decimal (len - taken) ++ 10 ∷ []

abbrev pub verdict_text : List ℕ → List TermEntry → List Item → List ℕ
verdict_text id entries taken = verdict_of id (length (items entries)) (length taken)

-- the report on one terminal
abbrev pub end_text : List ℕ → List TermEntry → List Item → List ℕ
end_text id entries taken = terminal_text id entries ++ host_text id taken ++ period_lines id taken taken ++ verdict_text id entries taken

-- the report on the terminals from this place on
abbrev pub ends_text : Scene → ℕ → List TerminalSettings → List TerminalState → List ℕ
ends_text w place [] states = []
ends_text w place (settings ∷ more) [] = []
ends_text w place (settings ∷ more) (s ∷ states) = end_text settings.terminal s.settled (log w.host.settled place) ++ ends_text w (suc place) more states

-- the text of a run
abbrev pub report : Schedule → Played → List ℕ
report s played = outcome_lines s.lines played.outcomes ++ ends_text played.last 0 s.terminals played.last.terminals
