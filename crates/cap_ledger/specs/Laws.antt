-- What calls say that are made one after another.
use Rattle.std.proofs.Common.{Bool, true, ◌≡◌, ◌⊎◌, ℕ, ◌+◌, ◌≤◌, false, List, [], ◌++◌, Option, Some, None, length, refl, sym, ◌∙◌, ap, subst, inl, inr, ⊎_elim, arith, append-nil}
use Rattle.std.specs.Prelude.{Result, Ok, Err, IsOk, OnOk, OnErr, IsErrOf, IsTrue}
use Rattle.cap_base.specs.Causes.{Rose}
use Rattle.cap_disk.specs.Disk.{Counts, LeavesOnly, StaysCounted, IsQuiet}
use Rattle.cap_journal.specs.declared.journal.Journal.{Ghosts}
use Rattle.cap_journal.specs.File.{Reading, HasEither}
use Rattle.cap_journal.specs.Seen.{CountsTrying, IsTrying}
use Rattle.cap_answering.specs.declared.fault.HostFault.{HostFault}
use Rattle.cap_answering.specs.declared.fault.HostFault.TheVariants.{Disk, Failed, Memory}
use Rattle.cap_ledger.specs.Adding.{calls_for}
use Rattle.cap_ledger.specs.Adding as adding

-- a fault that rises after a call rises over it
rose_later : (a b c : ℕ) → a ≤ b → Rose b c → Rose a c
rose_later a b c le rose = omega (arith, le, rose)

no_fault : {T : Type 0} (v : T) (fault : HostFault) → IsErrOf {E = HostFault} (Ok v) fault → ⊥
no_fault v fault is = cc

same_fault : {S T : Type 0} (e fault : HostFault) → IsErrOf {T = T} {E = HostFault} (Err e) fault → IsErrOf {T = S} {E = HostFault} (Err e) fault
same_fault {S = S} {T = T} e fault is = let same : e ≡ fault = cc in ap (λ (f : HostFault). let r : Result S HostFault = Err f in r) same

lacks_no_other : {T : Type 0} (fault : HostFault) → (Memory ≡ fault → ⊥) → IsErrOf {T = T} {E = HostFault} (Err Memory) fault → ⊥
lacks_no_other fault other is = other (let same : Memory ≡ fault = cc in same)

ok_from : {T : Type 0} (result : Result T HostFault) {P Q : Type 0} → (P → Q) → OnOk result P → OnOk result Q
ok_from (Ok v) f p = f p
ok_from (Err e) f p = tt

err_from : {T : Type 0} (result : Result T HostFault) {P Q : Type 0} → (P → Q) → OnErr result P → OnErr result Q
err_from (Ok v) f p = tt
err_from (Err e) f p = f p

-- what is counted over a call that isn't
counted_then : (n : ℕ) (a b c : Option Counts) (ok disk memory would would' : Type 0) → StaysCounted a b → (would → would') → (would' → would) → IsTrying n b c ok disk memory would → IsTrying n a c ok disk memory would'
counted_then n None b c ok disk memory would would' same to from trying = tt
counted_then n (Some old) b c ok disk memory would would' same to from trying = λ few. told (subst (λ (k : Option Counts). IsTrying n k c ok disk memory would) same trying few)
  where
    told : CountsTrying n old c ok disk memory would → CountsTrying n old c ok disk memory would'
    told t = record {
      added = t.added;
      stopped = λ is. (to (t.stopped is).0, (t.stopped is).1);
      goes_on = λ w within. t.goes_on (from w) within;
      other = t.other;
    }

-- images over a call that only reads
images_then : {J : Type 0} (moment : J → ℕ) (left_since : J → ℕ → List ℕ → Type 0) (a b c : J) (before after Q : List ℕ → Type 0) → LeavesOnly moment left_since a b before → ((image : List ℕ) → after image → before image)
    → LeavesOnly moment left_since b c (λ image. after image ⊎ Q image) → LeavesOnly moment left_since a c (λ image. before image ⊎ Q image)
images_then moment left_since a b c before after Q first still then = record {
  later = omega (arith, first.later, then.later);
  each = λ image left. ⊎_elim (λ earlier. inl (first.each image earlier)) (λ now. sorted image now) (then.before (moment a) image first.later left);
  before = λ t image le left. ⊎_elim (λ earlier. ⊎_elim (λ old. inl old) (λ now. inr (inl now)) (first.before t image le earlier)) (λ now. inr (sorted image now)) (then.before t image (omega (arith, le, first.later)) left);
}
  where
    sorted : (image : List ℕ) → after image ⊎ Q image → before image ⊎ Q image
    sorted image (inl now) = inl (still image now)
    sorted image (inr added) = inr added

reads_images : {J : Type 0} (moment : J → ℕ) (left_since : J → ℕ → List ℕ → Type 0) (a b c : J) (before after : List ℕ → Type 0) → LeavesOnly moment left_since a b before → ((image : List ℕ) → after image → before image)
    → LeavesOnly moment left_since b c after → LeavesOnly moment left_since a c before
reads_images moment left_since a b c before after first still then = record {
  later = omega (arith, first.later, then.later);
  each = λ image left. ⊎_elim (λ earlier. first.each image earlier) (λ now. still image now) (then.before (moment a) image first.later left);
  before = λ t image le left. ⊎_elim (λ earlier. first.before t image le earlier) (λ now. inr (still image now)) (then.before t image (omega (arith, le, first.later)) left);
}

module _ {E J S : Type 0} {reading : Reading E} {g : Ghosts J E} {journal : S → J} {failed : S → Bool} where
  -- a call after one that was answered, and added nothing
  pub reads_then_stays : (old mid new : S) {V T : Type 0} (v : V) (result : Result T HostFault) → adding.OnlyReads reading g journal failed old mid (Ok v) → adding.Stays reading g journal failed mid new result → adding.Stays reading g journal failed old new result
  reads_then_stays old mid new v result first then = record {
    faults = omega (arith, first.stays.faults, then.faults);
    disk = λ is. rose_later (g.faults (journal old)) (g.faults (journal mid)) (g.faults (journal new)) first.stays.faults (then.disk is);
    fails = then.fails;
    still = λ no'. then.still no' ∙ first.stays.still (no_fault v Disk);
    is_readable = then.is_readable ∙ first.stays.is_readable;
    tells = then.tells ∙ first.stays.tells;
    refused = err_from result (λ same. same ∙ first.entries) then.refused;
    refused_len = err_from result (λ same. same ∙ first.len) then.refused_len;
  }

  told_before : (old mid : S) {V : Type 0} (v : V) → adding.OnlyReads reading g journal failed old mid (Ok v) → IsTrue (g.tells (journal old)) → IsTrue (g.tells (journal mid))
  told_before old mid v first told = first.stays.tells ∙ told

  pub reads_then_reads : (old mid new : S) {V T : Type 0} (v : V) (result : Result T HostFault) → adding.OnlyReads reading g journal failed old mid (Ok v) → adding.OnlyReads reading g journal failed mid new result → adding.OnlyReads reading g journal failed old new result
  reads_then_reads old mid new v result first then = record {
    stays = reads_then_stays old mid new v result first then.stays;
    entries = then.entries ∙ first.entries;
    len = then.len ∙ first.len;
    never_failed = then.never_failed;
    counts = counts_on (g.counts (journal old)) (g.counts (journal mid)) first.counts then.counts;
    quiet = quiet_on (g.counts (journal old)) (g.counts (journal mid)) first.counts then.quiet;
    images = λ told. reads_images g.moment g.left_since (journal old) (journal mid) (journal new) (g.may_leave (journal old)) (g.may_leave (journal mid)) (first.images told) (first.leaves told) (then.images (told_before old mid v first told));
    leaves = λ told image left. first.leaves told image (then.leaves (told_before old mid v first told) image left);
  }
    where
      counts_on : (a b : Option Counts) → StaysCounted a b → StaysCounted b (g.counts (journal new)) → StaysCounted a (g.counts (journal new))
      counts_on None b same then' = tt
      counts_on (Some k) b same then' = subst (λ (x : Option Counts). StaysCounted x (g.counts (journal new))) same then'

      quiet_on : (a b : Option Counts) → StaysCounted a b → IsQuiet b (IsErrOf result Disk) → IsQuiet a (IsErrOf result Disk)
      quiet_on None b same then' = tt
      quiet_on (Some k) b same then' = subst (λ (x : Option Counts). IsQuiet x (IsErrOf result Disk)) same then'

  pub reads_then_adds : (old mid new : S) {V T : Type 0} (v : V) (added : List E) (result : Result T HostFault) → adding.OnlyReads reading g journal failed old mid (Ok v) → adding.Adds reading g journal failed mid new added result → adding.Adds reading g journal failed old new added result
  reads_then_adds old mid new v added result first then = record {
    stays = reads_then_stays old mid new v result first then.stays;
    grown = λ readable. ok_from result (λ grown. grown ∙ ap (λ (l : List E). l ++ added) first.entries) (then.grown (first.stays.is_readable ∙ readable));
    grown_len = ok_from result (λ grown. grown ∙ ap (λ (n : ℕ). n + length added) first.len) then.grown_len;
    failed_before = λ is. (sym same ∙ (then.failed_before is).0, (then.failed_before is).1);
    refuses = ok_from result (λ none shut. none (same ∙ shut)) then.refuses;
    counts =
        counted_then (calls_for added) (g.counts (journal old)) (g.counts (journal mid)) (g.counts (journal new)) _ _ _ _ _ first.counts
        (λ w. (sym same ∙ w.0, w.1)) (λ w. (same ∙ w.0, w.1)) then.counts;
    images = λ told. images_then g.moment g.left_since (journal old) (journal mid) (journal new) (g.may_leave (journal old)) (g.may_leave (journal mid)) (HasEither reading (g.entries (journal old)) (g.entries (journal old) ++ added)) (first.images told) (first.leaves told) (subst (λ (l : List E). LeavesOnly g.moment g.left_since (journal mid) (journal new) (λ image. g.may_leave (journal mid) image ⊎ HasEither reading l (l ++ added) image)) first.entries (then.images (told_before old mid v first told)));
  }
    where
      same : failed mid ≡ failed old
      same = first.stays.still (no_fault v Disk)

  -- a call that only reads adds nothing
  pub adds_none : (old new : S) {T : Type 0} (result : Result T HostFault) → adding.OnlyReads reading g journal failed old new result → adding.Adds reading g journal failed old new [] result
  adds_none old new {T = T} result reads = record {
    stays = reads.stays;
    grown = λ readable. both result (reads.entries ∙ sym (append-nil (g.entries (journal old))));
    grown_len = both result (omega (arith, reads.len));
    failed_before = λ is. absurd (reads.never_failed is);
    refuses = both result (λ shut. refl);
    counts = nothing_counted (g.counts (journal old)) (g.counts (journal new)) reads.counts reads.quiet;
    images = λ told. record {
      later = (reads.images told).later;
      each = λ image left. inl ((reads.images told).each image left);
      before = λ t image le left. ⊎_elim (λ earlier. inl earlier) (λ now. inr (inl now)) ((reads.images told).before t image le left);
    };
  }
    where
      both : (result : Result T HostFault) {P : Type 0} → P → OnOk result P
      both (Ok v) p = p
      both (Err e) p = tt

      nothing_counted : (a b : Option Counts) → StaysCounted a b → IsQuiet a (IsErrOf result Disk) → IsTrying 0 a b (IsOk result) (IsErrOf result Disk) (IsErrOf result Memory) ((failed old ≡ false) × ([] ≡ (let none : List E = [] in none) → ⊥))
      nothing_counted None b same quiet = tt
      nothing_counted (Some k) b same quiet = λ few. record {
        added = λ ok. same ∙ ap (λ (n : ℕ). let counts : Counts = record { calls = n; stop = k.stop } in Some counts) (let plus : k.calls ≡ k.calls + 0 = omega arith in plus);
        stopped = λ is. absurd (quiet is);
        goes_on = λ would within. absurd (would.1 refl);
        other = λ no' no''. same;
      }

  -- another value is given
  pub reads_give : (old new : S) {V T : Type 0} (v : V) (w : T) → adding.OnlyReads reading g journal failed old new (Ok v) → adding.OnlyReads reading g journal failed old new (Ok w)
  reads_give old new v w reads = record {
    stays = record {
      faults = reads.stays.faults;
      disk = λ is. absurd (no_fault w Disk is);
      fails = λ is. absurd (no_fault w Disk is);
      still = λ no'. reads.stays.still (no_fault v Disk);
      is_readable = reads.stays.is_readable;
      tells = reads.stays.tells;
      refused = tt;
      refused_len = tt;
    };
    entries = reads.entries;
    len = reads.len;
    never_failed = no_fault w Failed;
    counts = reads.counts;
    quiet = never (g.counts (journal old));
    images = reads.images;
    leaves = reads.leaves;
  }
    where
      never : (k : Option Counts) → IsQuiet k (IsErrOf {E = HostFault} (Ok w) Disk)
      never None = tt
      never (Some k) = no_fault w Disk

  -- the same fault, where another value was to be given
  pub reads_fail : (old new : S) {V T : Type 0} (e : HostFault) → adding.OnlyReads reading g journal failed old new {T = V} (Err e) → adding.OnlyReads reading g journal failed old new {T = T} (Err e)
  reads_fail old new {V = V} {T = T} e reads = record {
    stays = record {
      faults = reads.stays.faults;
      disk = λ is. reads.stays.disk (same_fault {S = V} {T = T} e Disk is);
      fails = λ is. reads.stays.fails (same_fault {S = V} {T = T} e Disk is);
      still = λ no'. reads.stays.still (λ is. no' (same_fault {S = T} {T = V} e Disk is));
      is_readable = reads.stays.is_readable;
      tells = reads.stays.tells;
      refused = reads.stays.refused;
      refused_len = reads.stays.refused_len;
    };
    entries = reads.entries;
    len = reads.len;
    never_failed = λ is. reads.never_failed (same_fault {S = V} {T = T} e Failed is);
    counts = reads.counts;
    quiet = quietly (g.counts (journal old)) reads.quiet;
    images = reads.images;
    leaves = reads.leaves;
  }
    where
      quietly : (k : Option Counts) → IsQuiet k (IsErrOf {T = V} {E = HostFault} (Err e) Disk) → IsQuiet k (IsErrOf {T = T} {E = HostFault} (Err e) Disk)
      quietly None quiet = tt
      quietly (Some k) quiet = λ is. quiet (same_fault {S = V} {T = T} e Disk is)

  -- want of memory after a call that only reads
  pub reads_lack : (old new : S) {V T : Type 0} (v : V) → adding.OnlyReads reading g journal failed old new (Ok v) → adding.OnlyReads reading g journal failed old new {T = T} (Err Memory)
  reads_lack old new {T = T} v reads = record {
    stays = record {
      faults = reads.stays.faults;
      disk = λ is. absurd (lacks_no_other {T = T} Disk (λ same. cc) is);
      fails = λ is. absurd (lacks_no_other {T = T} Disk (λ same. cc) is);
      still = λ no'. reads.stays.still (no_fault v Disk);
      is_readable = reads.stays.is_readable;
      tells = reads.stays.tells;
      refused = reads.entries;
      refused_len = reads.len;
    };
    entries = reads.entries;
    len = reads.len;
    never_failed = λ is. lacks_no_other {T = T} Failed (λ same. cc) is;
    counts = reads.counts;
    quiet = never (g.counts (journal old));
    images = reads.images;
    leaves = reads.leaves;
  }
    where
      answer : Result T HostFault
      answer = Err Memory

      never : (k : Option Counts) → IsQuiet k (IsErrOf answer Disk)
      never None = tt
      never (Some k) = λ is. lacks_no_other {T = T} Disk (λ same. cc) is

  -- a call that only reads and fails adds nothing, whatever was to be added
  pub fails_adds : (old new : S) {T : Type 0} (added : List E) (e : HostFault) → adding.OnlyReads reading g journal failed old new {T = T} (Err e) → adding.Adds reading g journal failed old new added {T = T} (Err e)
  fails_adds old new {T = T} added e reads = record {
    stays = reads.stays;
    grown = λ readable. tt;
    grown_len = tt;
    failed_before = λ is. absurd (reads.never_failed is);
    refuses = tt;
    counts = uncounted e reads.never_failed (g.counts (journal old)) (g.counts (journal new)) reads.counts reads.quiet;
    images = λ told. record {
      later = (reads.images told).later;
      each = λ image left. inl ((reads.images told).each image left);
      before = λ t image le left. ⊎_elim (λ earlier. inl earlier) (λ now. inr (inl now)) ((reads.images told).before t image le left);
    };
  }
    where
      answer : HostFault → Result T HostFault
      answer f = Err f

      uncounted : (f : HostFault) → (IsErrOf (answer f) Failed → ⊥) → (a b : Option Counts) → StaysCounted a b → IsQuiet a (IsErrOf (answer f) Disk)
          → IsTrying (calls_for added) a b (IsOk (answer f)) (IsErrOf (answer f) Disk) (IsErrOf (answer f) Memory) ((failed old ≡ false) × (added ≡ [] → ⊥))
      uncounted f never None b same quiet = tt
      uncounted Disk never (Some k) b same quiet = absurd (quiet refl)
      uncounted Failed never (Some k) b same quiet = absurd (never refl)
      uncounted Memory never (Some k) b same quiet = λ few. record {
        added = λ ok. absurd (let none = ok in cc);
        stopped = λ is. absurd (quiet is);
        goes_on = λ would within. inr refl;
        other = λ no' no''. same;
      }

  -- where a call answered Disk, nothing is added any more
  pub refused_adds : (old : S) {T : Type 0} (added : List E) → failed old ≡ true → (added ≡ [] → ⊥)
      → (IsTrue (g.tells (journal old)) → LeavesOnly g.moment g.left_since (journal old) (journal old) (g.may_leave (journal old))) → adding.Adds reading g journal failed old old added {T = T} (Err Failed)
  refused_adds old {T = T} added shut some still = record {
    stays = record {
      faults = omega arith;
      disk = λ is. absurd (let other = is in cc);
      fails = λ is. absurd (let other = is in cc);
      still = λ no'. refl;
      is_readable = refl;
      tells = refl;
      refused = refl;
      refused_len = refl;
    };
    grown = λ readable. tt;
    grown_len = tt;
    failed_before = λ is. (shut, some);
    refuses = tt;
    counts = untouched (g.counts (journal old));
    images = λ told. record {
      later = (still told).later;
      each = λ image left. inl ((still told).each image left);
      before = λ t image le left. ⊎_elim (λ earlier. inl earlier) (λ now. inr (inl now)) ((still told).before t image le left);
    };
  }
    where
      answer : Result T HostFault
      answer = Err Failed

      untouched : (a : Option Counts) → IsTrying (calls_for added) a a (IsOk answer) (IsErrOf answer Disk) (IsErrOf answer Memory) ((failed old ≡ false) × (added ≡ [] → ⊥))
      untouched None = tt
      untouched (Some k) = λ few. record {
        added = λ ok. absurd (let none = ok in cc);
        stopped = λ is. absurd (let other = is in cc);
        goes_on = λ would within. absurd (let both = sym shut ∙ would.0 in cc);
        other = λ no' no''. refl;
      }
