-- What a call of an end says of its journal: of the entries and of the images that a crash may leave. An end is whatever has a journal, and knows
-- whether a call of it failed; of its answer this asks only whether it did what it says, lacked memory (or refused, which does as little), or met the
-- disk.
use Rattle.std.specs.Prelude.{◌≡◌, ◌⊎◌, ℕ, ◌+◌, ◌≤◌, Bool, true, false, List, [], ◌∷◌, ◌++◌, length, Result, IsOk, OnOk, OnErr, IsErrOf, IsTrue}
use Rattle.cap_base.specs.Causes.{Rose}
use Rattle.cap_disk.specs.Disk.{LeavesOnly, StaysCounted, IsQuiet}
use Rattle.cap_journal.specs.declared.journal.Journal.{Ghosts}
use Rattle.cap_journal.specs.File.{Reading, HasEither}
use Rattle.cap_journal.specs.Seen.{IsTrying}
use Rattle.cap_answering.specs.declared.fault.HostFault.{HostFault}
use Rattle.cap_answering.specs.declared.fault.HostFault.TheVariants.{Disk, Failed, Memory}

-- how many device calls add these entries
abbrev pub calls_for : {E : Type 0} → List E → ℕ
calls_for [] = 0
calls_for (entry ∷ entries) = 4

module _ {E J S : Type 0} (reading : Reading E) (g : Ghosts J E) (journal : S → J) (failed : S → Bool) where
  -- what every call says, whatever the disk is
  pub record Stays (old new : S) {T : Type 0} (result : Result T HostFault) : Type 0 where
    pub faults : g.faults (journal old) ≤ g.faults (journal new)
    pub disk : IsErrOf result Disk → Rose (g.faults (journal old)) (g.faults (journal new))
    pub fails : IsErrOf result Disk → failed new ≡ true
    pub still : (IsErrOf result Disk → ⊥) → failed new ≡ failed old
    pub is_readable : g.is_readable (journal new) ≡ g.is_readable (journal old)
    pub tells : g.tells (journal new) ≡ g.tells (journal old)
    pub refused : OnErr result (g.entries (journal new) ≡ g.entries (journal old))
    pub refused_len : OnErr result (g.len (journal new) ≡ g.len (journal old))

  -- a call that adds nothing
  pub record OnlyReads (old new : S) {T : Type 0} (result : Result T HostFault) : Type 0 where
    pub stays : Stays old new result
    pub entries : g.entries (journal new) ≡ g.entries (journal old)
    pub len : g.len (journal new) ≡ g.len (journal old)
    pub never_failed : IsErrOf result Failed → ⊥
    pub counts : StaysCounted (g.counts (journal old)) (g.counts (journal new))
    pub quiet : IsQuiet (g.counts (journal old)) (IsErrOf result Disk)
    pub images : IsTrue (g.tells (journal old)) → LeavesOnly g.moment g.left_since (journal old) (journal new) (g.may_leave (journal old))
    pub leaves : IsTrue (g.tells (journal old)) → (image : List ℕ) → g.may_leave (journal new) image → g.may_leave (journal old) image

  -- a call that adds these entries as one group, or nothing where there are none
  pub record Adds (old new : S) (added : List E) {T : Type 0} (result : Result T HostFault) : Type 0 where
    pub stays : Stays old new result
    pub grown : IsTrue (g.is_readable (journal old)) → OnOk result (g.entries (journal new) ≡ g.entries (journal old) ++ added)
    pub grown_len : OnOk result (g.len (journal new) ≡ g.len (journal old) + length added)
    -- after a Disk nothing is added
    pub failed_before : IsErrOf result Failed → (failed old ≡ true) × (added ≡ [] → ⊥)
    pub refuses : OnOk result (failed old ≡ true → added ≡ [])
    pub counts : IsTrying (calls_for added) (g.counts (journal old)) (g.counts (journal new)) (IsOk result) (IsErrOf result Disk) (IsErrOf result Memory) ((failed old ≡ false) × (added ≡ [] → ⊥))
    -- at each moment a crash leaves what it could leave before, or the entries, without those that are added or with all of them
    pub images : IsTrue (g.tells (journal old)) → LeavesOnly g.moment g.left_since (journal old) (journal new) (λ image. g.may_leave (journal old) image ⊎ HasEither reading (g.entries (journal old)) (g.entries (journal old) ++ added) image)
