-- Set-ups of a host and its terminals that belong together.
use Rattle.std.specs.Prelude.{◌≡◌, true, List, map}
use Rattle.std.specs.List.{AllByRecursion}
use Rattle.cap_entries.specs.Settings.{TerminalSettings, HostSettings, is_terminal_settings, is_host_settings}

-- the set-ups name each other, and each keeps its own rule; names of terminals differ by the host's
pub record SetUpsMatch (host : HostSettings) (terminals : List TerminalSettings) : Type 0 where
  pub names : host.terminals ≡ map (λ settings. settings.terminal) terminals
  pub hosts : AllByRecursion (λ settings. settings.host ≡ host.host) terminals
  pub rules : AllByRecursion (λ settings. is_terminal_settings settings ≡ true) terminals
  pub host_rule : is_host_settings host ≡ true
