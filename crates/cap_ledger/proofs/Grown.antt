-- What an append of the journal says of the ledger.
use Rattle.std.proofs.Common.{◌≡◌, ℕ, Bool, true, false, List, [], ◌++◌, ◌+◌, length}
use Rattle.std.specs.Prelude.{Result, Ok, Err, IsTrue}
use Rattle.std.specs.declared.clone.Clone.{Ghosts as CloneGhosts}
use Rattle.cap_disk.specs.Disk.{LeavesOnly}
use Rattle.cap_journal.specs.declared.record.Record.{Ghosts as RecordGhosts}
use Rattle.cap_journal.specs.declared.journal.Journal.{Ghosts}
use Rattle.cap_journal.specs.declared.journal.JournalError.{JournalError}
use Rattle.cap_journal.specs.File.{HasEither}
use Rattle.cap_journal.specs.Told.{IsCountedBy, HasAppendCause}
use Rattle.cap_answering.specs.declared.fault.HostFault.{HostFault}
use Rattle.cap_answering.specs.declared.fault.HostFault.TheVariants.{Disk}
use Rattle.cap_ledger.specs.declared.ledger.Ledger.{Ledger}
use Rattle.cap_ledger.specs.Appended.{appended, not_appended}
use Rattle.cap_ledger.specs.Ledger.{Adds}

abbrev answered : Result (Unit {0}) JournalError
answered = Ok tt

abbrev refused_by : JournalError → Result (Unit {0}) JournalError
refused_by error = Err error

abbrev done : Result (Unit {0}) HostFault
done = Ok tt

abbrev ended : Result (Unit {0}) HostFault
ended = Err Disk

module _ {E J : Type 0} {r : RecordGhosts E} {c : CloneGhosts E} {g : Ghosts J E} (old new : Ledger E J r c g) (added : List E) (some : added ≡ [] → ⊥) (works : old.failed ≡ false) (fresh : g.has_failed old.journal ≡ false)
    (readable : g.is_readable new.journal ≡ g.is_readable old.journal) (tells : g.tells new.journal ≡ g.tells old.journal)
    (any_moment : IsTrue (g.tells old.journal) → g.has_failed old.journal ≡ false → LeavesOnly g.moment g.left_since old.journal new.journal (HasEither r.reading (g.entries old.journal) (g.entries old.journal ++ added))) where
  pub added_ok : new.failed ≡ old.failed → (IsTrue (g.is_readable old.journal) → g.entries new.journal ≡ g.entries old.journal ++ added) → g.len new.journal ≡ g.len old.journal + length added → HasAppendCause (g.has_failed old.journal) (g.has_failed new.journal) (g.faults old.journal) (g.faults new.journal) answered
      → IsCountedBy 4 (g.has_failed old.journal) (g.counts old.journal) (g.counts new.journal) answered → Adds old new added done
  added_ok same grown grown_len cause counted = appended r.reading g (λ (l : Ledger E J r c g). l.journal) (λ (l : Ledger E J r c g). l.failed) old new added some works fresh readable tells any_moment same grown grown_len cause counted

  pub added_err : (error : JournalError) → new.failed ≡ true → g.entries new.journal ≡ g.entries old.journal → g.len new.journal ≡ g.len old.journal → HasAppendCause (g.has_failed old.journal) (g.has_failed new.journal) (g.faults old.journal) (g.faults new.journal) (refused_by error)
      → IsCountedBy 4 (g.has_failed old.journal) (g.counts old.journal) (g.counts new.journal) (refused_by error) → Adds old new added ended
  added_err error failed same same_len cause counted = not_appended r.reading g (λ (l : Ledger E J r c g). l.journal) (λ (l : Ledger E J r c g). l.failed) old new added some works fresh readable tells any_moment error failed same same_len cause counted
