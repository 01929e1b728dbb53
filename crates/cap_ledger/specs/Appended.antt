-- What a call of a journal, or none, says of an end over it.
use Rattle.std.proofs.Common.{◌≡◌, ◌⊎◌, ℕ, Bool, true, false, List, [], ◌∷◌, ◌++◌, Option, Some, None, ◌+◌, ◌≤◌, length, refl, sym, ◌∙◌, ap, subst, inl, inr, ⊎_elim, arith}
use Rattle.std.specs.Prelude.{Result, Ok, Err, IsOk, IsErrOf, IsTrue}
use Rattle.cap_disk.specs.Disk.{Counts, LeavesOnly, StaysCounted, IsQuiet}
use Rattle.cap_journal.specs.declared.journal.Journal.{Ghosts}
use Rattle.cap_journal.specs.declared.journal.JournalError.{JournalError}
use Rattle.cap_journal.specs.declared.journal.JournalError.TheVariants.{Disk as JournalDisk, Failed as JournalFailed, Memory as JournalMemory}
use Rattle.cap_journal.specs.File.{Reading, HasEither}
use Rattle.cap_journal.specs.Seen.{IsTrying}
use Rattle.cap_journal.specs.Told.{IsCountedBy, HasAppendCause}
use Rattle.cap_answering.specs.declared.fault.HostFault.{HostFault}
use Rattle.cap_answering.specs.declared.fault.HostFault.TheVariants.{Disk, Failed, Memory}
use Rattle.cap_ledger.specs.Adding.{calls_for}
use Rattle.cap_ledger.specs.Adding as adding
use Rattle.cap_ledger.specs.Laws.{reads_lack, fails_adds, adds_none, refused_adds}

abbrev answered : Result (Unit {0}) JournalError
answered = Ok tt

abbrev refused_by : JournalError → Result (Unit {0}) JournalError
refused_by error = Err error

abbrev done : Result (Unit {0}) HostFault
done = Ok tt

abbrev ended : Result (Unit {0}) HostFault
ended = Err Disk

no_fault : {T : Type 0} (v : T) (fault : HostFault) → IsErrOf {E = HostFault} (Ok v) fault → ⊥
no_fault v fault is = cc

ok_counts : {E : Type 0} (added : List E) (works : Bool) (old new : Option Counts) → (added ≡ [] → ⊥) → works ≡ false → IsCountedBy 4 false old new answered
    → IsTrying (calls_for added) old new (IsOk done) (IsErrOf done Disk) (IsErrOf done Memory) ((works ≡ false) × (added ≡ [] → ⊥))
ok_counts [] works old new some w counted = absurd (some refl)
ok_counts (entry ∷ more) works None new some w counted = tt
ok_counts (entry ∷ more) works (Some k) new some w counted = λ few. record {
  added = λ ok. (counted few).ok;
  stopped = λ is. absurd (no_fault tt Disk is);
  goes_on = λ would within. absurd (let refused = (counted few).disk.1 (refl, within) in cc);
  other = λ no' no''. absurd (no' refl);
}

-- an error of a journal that had not failed is Disk
is_disk : (error : JournalError) (before now : ℕ) (failed_now : Bool) → HasAppendCause false failed_now before now (refused_by error) → error ≡ JournalDisk
is_disk JournalDisk before now failed_now cause = refl
is_disk JournalFailed before now failed_now cause = absurd (let never = cause.failed.0 refl in cc)
is_disk JournalMemory before now failed_now cause = absurd (cause.no_memory refl)

err_counts : {E : Type 0} (added : List E) (works : Bool) (old new : Option Counts) → (added ≡ [] → ⊥) → works ≡ false → IsCountedBy 4 false old new (refused_by JournalDisk)
    → IsTrying (calls_for added) old new (IsOk ended) (IsErrOf ended Disk) (IsErrOf ended Memory) ((works ≡ false) × (added ≡ [] → ⊥))
err_counts [] works old new some w counted = absurd (some refl)
err_counts (entry ∷ more) works None new some w counted = tt
err_counts (entry ∷ more) works (Some k) new some w counted = λ few. record {
  added = λ ok. absurd (let none = ok in cc);
  stopped = λ is. ((w, some), ((counted few).disk.0 refl).1);
  goes_on = λ would within. inl refl;
  other = λ no' no''. absurd (no'' refl);
}

module _ {E J S : Type 0} (reading : Reading E) (g : Ghosts J E) (journal : S → J) (failed : S → Bool) where
  abbrev OnlyReads : S → S → {T : Type 0} → Result T HostFault → Type 0
  OnlyReads old new result = adding.OnlyReads reading g journal failed old new result

  abbrev Adds : S → S → List E → {T : Type 0} → Result T HostFault → Type 0
  Adds old new added result = adding.Adds reading g journal failed old new added result

  -- the law of a journal that since this moment there is no other
  abbrev pub OnlyNow : Type 0
  OnlyNow = (now : J) (image : List ℕ) → IsTrue (g.tells now) → g.left_since now (g.moment now) image → g.may_leave now image

  -- and that this moment is one of those since an earlier one
  abbrev pub CountsNow : Type 0
  CountsNow = (now : J) (t : ℕ) (image : List ℕ) → IsTrue (g.tells now) → t ≤ g.moment now → g.may_leave now image → g.left_since now t image

  still_leaves : OnlyNow → (old : S) → IsTrue (g.tells (journal old)) → LeavesOnly g.moment g.left_since (journal old) (journal old) (g.may_leave (journal old))
  still_leaves only_now old told = record {
    later = omega arith;
    each = λ image left. only_now (journal old) image told left;
    before = λ t image le left. inl left;
  }

  -- where nothing is done, nothing is added
  pub idle_reads : OnlyNow → (old : S) {T : Type 0} (v : T) → OnlyReads old old (Ok v)
  idle_reads only_now old {T = T} v = record {
    stays = record {
      faults = omega arith;
      disk = λ is. absurd (no_fault v Disk is);
      fails = λ is. absurd (no_fault v Disk is);
      still = λ no'. refl;
      is_readable = refl;
      tells = refl;
      refused = tt;
      refused_len = tt;
    };
    entries = refl;
    len = refl;
    never_failed = λ is. no_fault v Failed is;
    counts = same (g.counts (journal old));
    quiet = never (g.counts (journal old));
    images = λ told. still_leaves only_now old told;
    leaves = λ told image left. left;
  }
    where
      answer : Result T HostFault
      answer = Ok v

      same : (k : Option Counts) → StaysCounted k k
      same None = tt
      same (Some k) = refl

      never : (k : Option Counts) → IsQuiet k (IsErrOf answer Disk)
      never None = tt
      never (Some k) = λ is. no_fault v Disk is

  -- so where nothing is to be added
  pub idle_adds : OnlyNow → (old : S) {T : Type 0} (v : T) → Adds old old [] (Ok v)
  idle_adds only_now old v = adds_none old old (Ok v) (idle_reads only_now old v)

  -- a refusal for want of memory, before anything is done
  pub lacks_adds : OnlyNow → (old : S) {T : Type 0} (added : List E) → Adds old old added {T = T} (Err Memory)
  lacks_adds only_now old {T = T} added = fails_adds old old {T = T} added Memory (reads_lack old old {V = Unit {0}} {T = T} tt (idle_reads only_now old {T = Unit {0}} tt))

  -- a refusal since an earlier call failed
  pub failed_adds : OnlyNow → (old : S) {T : Type 0} (added : List E) → failed old ≡ true → (added ≡ [] → ⊥) → Adds old old added {T = T} (Err Failed)
  failed_adds only_now old {T = T} added shut some = refused_adds old {T = T} added shut some (λ told. still_leaves only_now old told)

  -- a call of the journal that changes none of this, as one that makes room
  pub same_reads : CountsNow → (old new : S) {T : Type 0} (v : T) → failed new ≡ failed old → g.entries (journal new) ≡ g.entries (journal old) → g.len (journal new) ≡ g.len (journal old) → g.faults (journal new) ≡ g.faults (journal old)
      → StaysCounted (g.counts (journal old)) (g.counts (journal new)) → g.is_readable (journal new) ≡ g.is_readable (journal old) → g.tells (journal new) ≡ g.tells (journal old)
      → (IsTrue (g.tells (journal old)) → LeavesOnly g.moment g.left_since (journal old) (journal new) (g.may_leave (journal old))) → OnlyReads old new (Ok v)
  same_reads counts_now old new {T = T} v same entries len faults counts readable tells images = record {
    stays = record {
      faults = omega (arith, faults);
      disk = λ is. absurd (no_fault v Disk is);
      fails = λ is. absurd (no_fault v Disk is);
      still = λ no'. same;
      is_readable = readable;
      tells = tells;
      refused = tt;
      refused_len = tt;
    };
    entries = entries;
    len = len;
    never_failed = λ is. no_fault v Failed is;
    counts = counts;
    quiet = never (g.counts (journal old));
    images = images;
    leaves = λ told image left. (images told).each image (counts_now (journal new) (g.moment (journal old)) image (tells ∙ told) (images told).later left);
  }
    where
      answer : Result T HostFault
      answer = Ok v

      never : (k : Option Counts) → IsQuiet k (IsErrOf answer Disk)
      never None = tt
      never (Some k) = λ is. no_fault v Disk is

  -- an append of a journal that has not failed
  module _ (old new : S) (added : List E) (some : added ≡ [] → ⊥) (works : failed old ≡ false) (fresh : g.has_failed (journal old) ≡ false)
      (readable : g.is_readable (journal new) ≡ g.is_readable (journal old)) (tells : g.tells (journal new) ≡ g.tells (journal old))
      (any_moment : IsTrue (g.tells (journal old)) → g.has_failed (journal old) ≡ false → LeavesOnly g.moment g.left_since (journal old) (journal new) (HasEither reading (g.entries (journal old)) (g.entries (journal old) ++ added))) where
    images : IsTrue (g.tells (journal old)) → LeavesOnly g.moment g.left_since (journal old) (journal new) (λ image. g.may_leave (journal old) image ⊎ HasEither reading (g.entries (journal old)) (g.entries (journal old) ++ added) image)
    images told = let only = any_moment told fresh in record {
      later = only.later;
      each = λ image left. inr (only.each image left);
      before = λ t image le left. ⊎_elim (λ earlier. inl earlier) (λ now. inr (inr now)) (only.before t image le left);
    }

    pub appended : failed new ≡ failed old → (IsTrue (g.is_readable (journal old)) → g.entries (journal new) ≡ g.entries (journal old) ++ added) → g.len (journal new) ≡ g.len (journal old) + length added
        → HasAppendCause (g.has_failed (journal old)) (g.has_failed (journal new)) (g.faults (journal old)) (g.faults (journal new)) answered → IsCountedBy 4 (g.has_failed (journal old)) (g.counts (journal old)) (g.counts (journal new)) answered → Adds old new added done
    appended same grown grown_len cause counted = record {
      stays = record {
        faults = cause.later;
        disk = λ is. absurd (no_fault tt Disk is);
        fails = λ is. absurd (no_fault tt Disk is);
        still = λ no'. same;
        is_readable = readable;
        tells = tells;
        refused = tt;
        refused_len = tt;
      };
      grown = grown;
      grown_len = grown_len;
      failed_before = λ is. absurd (no_fault tt Failed is);
      refuses = λ failed. absurd (let both = sym works ∙ failed in cc);
      counts = ok_counts added (failed old) (g.counts (journal old)) (g.counts (journal new)) some works (subst (λ (b : Bool). IsCountedBy 4 b (g.counts (journal old)) (g.counts (journal new)) answered) fresh counted);
      images = images;
    }

    pub not_appended : (error : JournalError) → failed new ≡ true → g.entries (journal new) ≡ g.entries (journal old) → g.len (journal new) ≡ g.len (journal old)
        → HasAppendCause (g.has_failed (journal old)) (g.has_failed (journal new)) (g.faults (journal old)) (g.faults (journal new)) (refused_by error)
        → IsCountedBy 4 (g.has_failed (journal old)) (g.counts (journal old)) (g.counts (journal new)) (refused_by error) → Adds old new added ended
    not_appended error fails same same_len cause counted =
        let disk : error ≡ JournalDisk = is_disk error (g.faults (journal old)) (g.faults (journal new)) (g.has_failed (journal new)) (subst (λ (b : Bool). HasAppendCause b (g.has_failed (journal new)) (g.faults (journal old)) (g.faults (journal new)) (refused_by error)) fresh cause) in
        record {
          stays = record {
            faults = cause.later;
            disk = λ is. cause.disk (ap (λ (e : JournalError). refused_by e) disk);
            fails = λ is. fails;
            still = λ no'. absurd (no' refl);
            is_readable = readable;
            tells = tells;
            refused = same;
            refused_len = same_len;
          };
          grown = λ is. tt;
          grown_len = tt;
          failed_before = λ is. absurd (let other = is in cc);
          refuses = tt;
          counts =
              err_counts added (failed old) (g.counts (journal old)) (g.counts (journal new)) some works
              (subst (λ (e : JournalError). IsCountedBy 4 false (g.counts (journal old)) (g.counts (journal new)) (refused_by e)) disk (subst (λ (b : Bool). IsCountedBy 4 b (g.counts (journal old)) (g.counts (journal new)) (refused_by error)) fresh counted));
          images = images;
        }
