-- How each end was set up, as plain data, and the rules of it.
use Rattle.std.specs.Prelude.{ℕ, Bool, ◌&&◌, not, nat_le, if◌then◌else◌, List, Option, Some, None, bytes_eq}
use Rattle.std.specs.List.{list_any}
use Rattle.cap_leaf.specs.Date.{DateParts}
use Rattle.cap_entries.specs.Lists.{is_idents, is_blocks}

-- a terminal: its name, its host's name, how many sales it may begin, and up to which sum it may complete one by itself
pub record TerminalSettings : Type 0 where
  pub terminal : List ℕ
  pub host : List ℕ
  pub max : ℕ
  pub floor : ℕ

abbrev pub is_terminal_settings : TerminalSettings → Bool
is_terminal_settings s = (nat_le 1 s.max && nat_le s.max 250000) && (nat_le s.floor 999999999999 && not (bytes_eq s.terminal s.host))

abbrev pub terminal_settings_of : List ℕ → List ℕ → ℕ → ℕ → Option TerminalSettings
terminal_settings_of terminal host max floor =
    let s : TerminalSettings = record { terminal = terminal; host = host; max = max; floor = floor } in
    if is_terminal_settings s then Some s else None

-- a host: its name, up to which sum it approves, which accounts it blocks, the minutes between two polls, the start of its plan, and its terminals
pub record HostSettings : Type 0 where
  pub host : List ℕ
  pub limit : ℕ
  pub blocked : List (List ℕ)
  pub poll : ℕ
  pub start : DateParts
  pub terminals : List (List ℕ)

abbrev pub is_host_settings : HostSettings → Bool
is_host_settings s = (is_idents s.terminals && is_blocks s.blocked) && (nat_le s.poll 525600 && not (list_any (bytes_eq s.host) s.terminals))

abbrev pub host_settings_if : HostSettings → Option HostSettings
host_settings_if s = if is_host_settings s then Some s else None
