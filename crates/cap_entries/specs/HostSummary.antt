-- What is to be known of a host's entries so far to tell whether one more is allowed.
use Rattle.std.specs.Prelude.{ℕ, ◌+◌, ◌≤◌, Bool, true, false, ◌&&◌, nat_le, nat_lt, ◌==◌, if◌then◌else◌, List, [], length, fold, replicate, slice_index_or, slice_set}
use Rattle.cap_entries.specs.declared.host.HostEntry.{HostEntry}
use Rattle.cap_entries.specs.declared.host.HostEntry.TheVariants.{Setup, Took, Published}
use Rattle.cap_entries.specs.HostAllowed.{is_host_setup}
use Rattle.cap_entries.specs.LogSummary.{LogSummary, no_log, log_after, log_fits}

pub record HostSummary : Type 0 where
  -- whether the set-up is there
  pub started : Bool
  -- of each terminal's log
  pub logs : List LogSummary
  pub published : ℕ

-- of no entries
abbrev pub no_host_summary : HostSummary
no_host_summary = record { started = false; logs = []; published = 0 }

abbrev pub log_at : List LogSummary → ℕ → LogSummary
log_at logs place = slice_index_or logs place no_log

-- with one entry more
abbrev pub host_summary_after : HostSummary → HostEntry → HostSummary
host_summary_after s (Setup settings) = record s { started = true; logs = replicate (length settings.terminals) no_log }
host_summary_after s (Took place item) = record s { logs = slice_set s.logs place (log_after (log_at s.logs place) item) }
host_summary_after s (Published version rows) = record s { published = version }

abbrev pub host_summary : List HostEntry → HostSummary
host_summary entries = fold host_summary_after no_host_summary entries

-- what may follow the set-up
abbrev pub host_follows : HostSummary → HostEntry → Bool
host_follows s (Setup settings) = false
host_follows s (Took place item) = nat_lt place (length s.logs) && log_fits (log_at s.logs place) item
host_follows s (Published version rows) = (version == s.published + 1) && nat_le version 10000

abbrev pub host_may_follow : HostSummary → HostEntry → Bool
host_may_follow s entry = if s.started then host_follows s entry else is_host_setup entry

pub record IsHostSummary (s : HostSummary) : Type 0 where
  pub published : s.published ≤ 10000
