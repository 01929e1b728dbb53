-- A host's part of a report: what was read of a log so far, and what reading leaves of the host.
use Rattle.std.specs.Prelude.{◌≡◌, ℕ, zero, suc, ◌≤◌, Option, List, [], ◌++◌, Result, IsErrOf}
use Rattle.cap_base.specs.Causes.{Rose}
use Rattle.cap_disk.specs.Disk.{Counts}
use Rattle.cap_journal.specs.declared.journal.Journal.{Ghosts}
use Rattle.cap_base.specs.declared.item.Item.{Item}
use Rattle.cap_base.specs.Captured.{period_totals}
use Rattle.cap_entries.specs.declared.host.HostEntry.{HostEntry}
use Rattle.cap_host.specs.declared.host.Host.{Host}
use Rattle.cap_answering.specs.declared.fault.HostFault.{HostFault}
use Rattle.cap_answering.specs.declared.fault.HostFault.TheVariants as fault
use Rattle.cap_host.specs.Host.{journal_of, entries_of, has_failed}
use Rattle.cap_world.specs.World.{HostState}
use Rattle.cap_plays.specs.Report.{host_text, period_text, period_lines}
use Rattle.cap_host_lines.specs.Acts.{IsReady}

-- a line for each of the first so many periods
abbrev pub periods_text : List ℕ → List Item → ℕ → List ℕ
periods_text id taken zero = []
periods_text id taken (suc p) = periods_text id taken p ++ period_text id (suc p) (period_totals taken (suc p))

-- the part of a report on a terminal's log at the host
abbrev pub log_text : List ℕ → List Item → List ℕ
log_text id taken = host_text id taken ++ period_lines id taken taken

-- it has the same entries, works as before, and stands to a state of the model as before
pub record Keeps {J : Type 0} {g : Ghosts J HostEntry} (old new : Host J g) : Type 0 where
  pub entries : entries_of new ≡ entries_of old
  pub works : has_failed new ≡ has_failed old
  pub ready : (s : HostState) (armed : Option ℕ) (before : Counts) → IsReady old s armed before → IsReady new s armed before

-- how many calls of its disk failed
abbrev pub faults_of : {J : Type 0} {g : Ghosts J HostEntry} → Host J g → ℕ
faults_of {g = g} host = g.faults (journal_of host)

-- what reading says of its faults: their count never falls and rises at Disk, and no earlier one ends the call
pub record Blames {J : Type 0} {g : Ghosts J HostEntry} {T : Type 0} (old new : Host J g) (result : Result T HostFault) : Type 0 where
  pub later : faults_of old ≤ faults_of new
  pub disk : IsErrOf result fault.Disk → Rose (faults_of old) (faults_of new)
  pub never_failed : IsErrOf result fault.Failed → ⊥
