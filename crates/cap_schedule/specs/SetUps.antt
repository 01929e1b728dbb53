-- The lines that set up the host and its terminals.
use Rattle.std.specs.Prelude.{ℕ, Bool, true, false, ◌&&◌, not, nat_lt, nat_le, if◌then◌else◌, List, [], ◌∷◌, length, map, Option, Some, None, codes, position}
use Rattle.std.specs.List.{list_any}
use Rattle.std.specs.Str.{bytes_eq}
use Rattle.cap_base.specs.Text.{ident_of}
use Rattle.cap_base.specs.Number.{number_of}
use Rattle.cap_base.specs.Amount.{money_of, amount_of}
use Rattle.cap_leaf.specs.Date.{DateParts}
use Rattle.cap_leaf.specs.declared.zone.Zone.TheVariants.{Utc}
use Rattle.cap_entries.specs.Settings.{TerminalSettings, terminal_settings_of, HostSettings, host_settings_if}
use Rattle.cap_schedule.specs.declared.schedule.End.{End}
use Rattle.cap_schedule.specs.declared.schedule.End.TheVariants as E
use Rattle.cap_schedule.specs.declared.schedule.HostLine.{HostLine}
use Rattle.cap_schedule.specs.declared.schedule.Schedule.{Schedule}
use Rattle.cap_schedule.specs.Blocks.{blocks_in}

-- `host ID limit AMOUNT block LIST poll MINUTES`
abbrev pub host_values : Option (List ℕ) → Option ℕ → Option (List (List ℕ)) → Option ℕ → Option HostLine
host_values None limit blocked poll = None
host_values (Some id) None blocked poll = None
host_values (Some id) (Some limit) None poll = None
host_values (Some id) (Some limit) (Some blocked) None = None
host_values (Some id) (Some limit) (Some blocked) (Some poll) =
    if nat_le poll 525600 then Some (record { id = id; limit = limit; blocked = blocked; poll = poll }) else None

abbrev pub are_host_words : (a b c d : List ℕ) → Bool
are_host_words a b c d = bytes_eq a (codes "host") && bytes_eq b (codes "limit") && bytes_eq c (codes "block") && bytes_eq d (codes "poll")

-- the words after the fourth
abbrev pub host_more_of : (a id b limit : List ℕ) → List (List ℕ) → Option HostLine
host_more_of a id b limit (c ∷ blocks ∷ d ∷ poll ∷ []) =
    if are_host_words a b c d then host_values (ident_of id) (amount_of limit) (blocks_in blocks) (number_of 10 poll) else None
host_more_of a id b limit _ = None

abbrev pub host_line : List (List ℕ) → Option HostLine
host_line (a ∷ id ∷ b ∷ limit ∷ more) = host_more_of a id b limit more
host_line _ = None

abbrev pub is_named : List ℕ → TerminalSettings → Bool
is_named id t = bytes_eq t.terminal id

-- `terminal ID max NUMBER floor MONEY`, a terminal of this host
abbrev pub terminal_values : List ℕ → Option (List ℕ) → Option ℕ → Option ℕ → Option TerminalSettings
terminal_values host None max floor = None
terminal_values host (Some id) None floor = None
terminal_values host (Some id) (Some max) None = None
terminal_values host (Some id) (Some max) (Some floor) = terminal_settings_of id host max floor

abbrev pub are_terminal_words : (a b c : List ℕ) → Bool
are_terminal_words a b c = bytes_eq a (codes "terminal") && bytes_eq b (codes "max") && bytes_eq c (codes "floor")

-- there are fewer than 16 terminals, and none has this name
abbrev pub is_free : List ℕ → List TerminalSettings → Bool
is_free id terminals = nat_lt (length terminals) 16 && not (list_any (is_named id) terminals)

abbrev pub terminal_line : List ℕ → List TerminalSettings → List (List ℕ) → Option TerminalSettings
terminal_line host terminals (a ∷ id ∷ b ∷ max ∷ c ∷ floor ∷ []) =
    if are_terminal_words a b c && is_free id terminals then terminal_values host (ident_of id) (number_of 10 max) (money_of floor) else None
terminal_line host terminals _ = None

abbrev pub is_terminal_line : List (List ℕ) → Bool
is_terminal_line [] = false
is_terminal_line (word ∷ words) = bytes_eq word (codes "terminal")

-- the plan of every schedule starts at 2023-11-14T22:13:20Z
abbrev pub plan_start : DateParts
plan_start = record { year = 2023; month = 11; day = 14; hour = 22; minute = 13; second = 20; millis = None; zone = Utc }

-- the host of its line and these terminals
abbrev pub host_of : HostLine → List (List ℕ) → HostSettings
host_of h terminals = record { host = h.id; limit = h.limit; blocked = h.blocked; poll = h.poll; start = plan_start; terminals = terminals }

abbrev pub opened_with : List TerminalSettings → Option HostSettings → Option Schedule
opened_with terminals None = None
opened_with terminals (Some host) = Some (record { host = host; terminals = terminals; lines = [] })

-- the schedule before its first action line; there is none without a terminal
abbrev pub opened : HostLine → List TerminalSettings → Option Schedule
opened h terminals = opened_with terminals (host_settings_if (host_of h (map (λ t. t.terminal) terminals)))

-- the place of a terminal by its name
abbrev pub place_of : List TerminalSettings → List ℕ → Option ℕ
place_of terminals id = position (is_named id) terminals

abbrev pub end_at : Option ℕ → Option End
end_at None = None
end_at (Some place) = Some (E.Terminal place)

-- an end by its name
abbrev pub end_of : List ℕ → List TerminalSettings → List ℕ → Option End
end_of host terminals id = if bytes_eq id host then Some E.Host else end_at (place_of terminals id)

abbrev pub is_party : List ℕ → List TerminalSettings → List ℕ → Bool
is_party host terminals id = if bytes_eq id host then true else list_any (is_named id) terminals
