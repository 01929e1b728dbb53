-- What a ledger shows, and what a call says of it.
use Rattle.std.specs.Prelude.{ℕ, Bool, List, Result}
use Rattle.std.specs.declared.clone.Clone.{Ghosts as CloneGhosts}
use Rattle.cap_journal.specs.declared.record.Record.{Ghosts as RecordGhosts}
use Rattle.cap_journal.specs.declared.journal.Journal.{Ghosts}
use Rattle.cap_journal.specs.declared.spare.Spare.{Spare}
use Rattle.cap_journal.specs.Seen.{EveryImage, EveryImageHas}
use Rattle.cap_journal.specs.Kept.{HasFront}
use Rattle.cap_ledger.specs.Adding as adding
use Rattle.cap_answering.specs.declared.fault.HostFault.{HostFault}
use Rattle.cap_ledger.specs.declared.ledger.Ledger.{Ledger}

module _ {E J : Type 0} {r : RecordGhosts E} {c : CloneGhosts E} {g : Ghosts J E} where
  abbrev pub journal_in : Ledger E J r c g → J
  journal_in ledger = ledger.journal

  -- a call answered Disk since it was opened
  abbrev pub has_failed : Ledger E J r c g → Bool
  has_failed ledger = ledger.failed

  abbrev pub entries_in : Ledger E J r c g → List E
  entries_in ledger = g.entries ledger.journal

  -- how many they are, over any disk
  abbrev pub len_in : Ledger E J r c g → ℕ
  len_in ledger = g.len ledger.journal

  abbrev pub spare_in : Ledger E J r c g → Spare
  spare_in ledger = g.spare ledger.journal

  abbrev pub fetched_in : Ledger E J r c g → ℕ
  fetched_in ledger = g.fetched ledger.journal

  abbrev pub is_readable : Ledger E J r c g → Bool
  is_readable ledger = g.is_readable ledger.journal

  abbrev pub tells : Ledger E J r c g → Bool
  tells ledger = g.tells ledger.journal

  -- a crash now may leave this image
  abbrev pub MayLeave : Ledger E J r c g → List ℕ → Type 0
  MayLeave ledger image = g.may_leave ledger.journal image

  -- every image that a crash may leave now has the entries at its head
  abbrev pub StandsInAll : Ledger E J r c g → Type 0
  StandsInAll ledger = EveryImage g.may_leave ledger.journal (HasFront r.reading (g.entries ledger.journal))

  -- each has the entries, and no more
  abbrev pub IsInAll : Ledger E J r c g → Type 0
  IsInAll ledger = EveryImageHas g.may_leave r.reading ledger.journal (g.entries ledger.journal)

  -- a call that adds nothing
  abbrev pub OnlyReads : Ledger E J r c g → Ledger E J r c g → {T : Type 0} → Result T HostFault → Type 0
  OnlyReads old new result = adding.OnlyReads r.reading g (λ ledger. ledger.journal) (λ ledger. ledger.failed) old new result

  -- a call that adds these entries as one group, or nothing where there are none
  abbrev pub Adds : Ledger E J r c g → Ledger E J r c g → List E → {T : Type 0} → Result T HostFault → Type 0
  Adds old new added result = adding.Adds r.reading g (λ ledger. ledger.journal) (λ ledger. ledger.failed) old new added result
