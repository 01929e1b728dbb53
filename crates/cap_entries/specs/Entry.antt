-- Tests on a terminal's entries, and what they say of a sale.
use Rattle.std.specs.Prelude.{ℕ, Bool, true, false, ◌&&◌, not, ◌==◌, if◌then◌else◌, List, [], ◌∷◌}
use Rattle.std.specs.List.{list_any}
use Rattle.cap_entries.specs.Settings.{TerminalSettings, is_terminal_settings}
use Rattle.cap_entries.specs.declared.terminal.TermEntry.{TermEntry}
use Rattle.cap_entries.specs.declared.terminal.TermEntry.TheVariants.{Setup, Begin, Declined, Completed, Voided, Cancelled}
use Rattle.cap_entries.specs.declared.terminal.TermEntry.TheVariants.{Closed}

-- a Setup in range, as each value of the type is; laws over plain lists have it from here
abbrev pub is_setup : TermEntry → Bool
is_setup (Setup settings) = is_terminal_settings settings
is_setup _ = false

abbrev pub is_any_begin : TermEntry → Bool
is_any_begin (Begin k amount account) = true
is_any_begin _ = false

abbrev pub is_begin : ℕ → TermEntry → Bool
is_begin n (Begin k amount account) = k == n
is_begin n _ = false

-- Declined, Completed or Voided
abbrev pub ends : ℕ → TermEntry → Bool
ends n (Declined k) = k == n
ends n (Completed k code) = k == n
ends n (Voided k) = k == n
ends n _ = false

abbrev pub completes : ℕ → TermEntry → Bool
completes n (Completed k code) = k == n
completes n _ = false

abbrev pub cancels : ℕ → TermEntry → Bool
cancels n (Cancelled k) = k == n
cancels n _ = false

abbrev pub is_any_closed : TermEntry → Bool
is_any_closed (Closed p) = true
is_any_closed _ = false

-- begun, and not yet declined, completed or voided
abbrev pub is_pending : List TermEntry → ℕ → Bool
is_pending entries n = list_any (is_begin n) entries && not (list_any (ends n) entries)

abbrev pub is_completed : List TermEntry → ℕ → Bool
is_completed entries n = list_any (completes n) entries

abbrev pub is_cancelled : List TermEntry → ℕ → Bool
is_cancelled entries n = list_any (cancels n) entries

-- amount and account of Begin n
abbrev pub amount_of : List TermEntry → ℕ → ℕ
amount_of [] n = 0
amount_of (Begin k amount account ∷ entries) n = if k == n then amount else amount_of entries n
amount_of (_ ∷ entries) n = amount_of entries n

abbrev pub account_of : List TermEntry → ℕ → List ℕ
account_of [] n = []
account_of (Begin k amount account ∷ entries) n = if k == n then account else account_of entries n
account_of (_ ∷ entries) n = account_of entries n

-- how the terminal was set up; the second row is for lists that are not legal
abbrev pub term_setup_of : List TermEntry → TerminalSettings
term_setup_of (Setup settings ∷ entries) = settings
term_setup_of _ = record { terminal = []; host = []; max = 0; floor = 0 }

-- how many sales it may begin
abbrev pub max_of : List TermEntry → ℕ
max_of (Setup settings ∷ entries) = settings.max
max_of _ = 0
