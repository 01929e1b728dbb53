-- What a line of the host has done follows from what its call did.
use Rattle.std.proofs.Common.{◌≡◌, ⊎_elim, ℕ, ◌+◌, ◌^◌, ◌≤◌, ◌<◌, Bool, false, List, [], ◌∷◌, length, Option, Some, None, Ok, Err, refl, sym, ◌∙◌, ap, subst, inl, append-nil, arith, IsTrue}
use Rattle.std.specs.Prelude.{Result, IsOk, IsErrOf, IfOk, IfErr, OnOk, IsSomeAnd}
use Rattle.std.proofs.lemmas.Bool.{false≢true}
use Rattle.cap_base.specs.declared.parameters.Row.{Row}
use Rattle.cap_disk.specs.Disk.{Counts, StaysCounted}
use Rattle.cap_journal.specs.declared.journal.Journal.{Ghosts}
use Rattle.cap_journal.specs.Told.{StopsWithin, counted}
use Rattle.cap_journal.specs.Seen.{CountsTrying, IsTrying}
use Rattle.cap_entries.specs.declared.host.HostEntry.{HostEntry}
use Rattle.cap_entries.specs.declared.host.HostEntry.TheVariants.{Published}
use Rattle.cap_entries.specs.Log.{published}
use Rattle.cap_ledger.specs.Adding.{calls_for}
use Rattle.cap_answering.specs.declared.fault.HostFault.{HostFault}
use Rattle.cap_answering.specs.declared.fault.HostFault.TheVariants as fault
use Rattle.cap_host.specs.declared.host.Host.{Host}
use Rattle.cap_host.specs.declared.publishing.PublishFault.{PublishFault}
use Rattle.cap_host.specs.declared.publishing.PublishFault.TheVariants as P
use Rattle.cap_host.specs.Host.{journal_of, entries_of, has_failed, tells, fault_of, IsInAll, Reads, Adds, ending}
use Rattle.cap_host.specs.Publishing.{MayPublish, IsPublishCause, publish_fault_of}
use Rattle.cap_host_lines.specs.Says.{said_published}
use Rattle.cap_host_lines.specs.Acts.{counts_of, images_of, IsWorking, Grew, ChangedBy, PublishedBy}

pub few_calls : {E : Type 0} (added : List E) → calls_for added ≤ 4
few_calls [] = omega arith
few_calls (entry ∷ added) = omega arith

-- nothing that is added makes no call
none_within : (before : Counts) → StopsWithin 0 before → ⊥
none_within before within = by_stop before.stop within
  where
    by_stop : (stop : Option ℕ) → IsSomeAnd stop (λ s. (before.calls < s) × (s ≤ before.calls + 0)) → ⊥
    by_stop None never = never
    by_stop (Some s) near = omega (arith, near.0, near.1)

some_within : {E : Type 0} (added : List E) (before : Counts) → StopsWithin (calls_for added) before → added ≡ [] → ⊥
some_within [] before within none = none_within before within
some_within (entry ∷ added) before within none = cc

not_disk : {T : Type 0} (v : T) → IsErrOf {E = HostFault} (Ok v) fault.Disk → ⊥
not_disk v is = cc

not_memory : {T : Type 0} (v : T) → IsErrOf {E = HostFault} (Ok v) fault.Memory → ⊥
not_memory v is = cc

no_limit : (version : ℕ) → IsErrOf {E = PublishFault} (Ok version) P.SetLimit → ⊥
no_limit version is = cc

no_limit_either : IsErrOf {T = ℕ} {E = PublishFault} (Err P.Disk) P.SetLimit → ⊥
no_limit_either is = cc

counted_none : (before : Counts) → before ≡ counted 0 before
counted_none before = let same : before.calls ≡ before.calls + 0 = omega arith in ap (λ (n : ℕ). let counts : Counts = record { calls = n; stop = before.stop } in counts) same

module _ {J : Type 0} {g : Ghosts J HostEntry} where
  trying : (old new : Host J g) (added : List HostEntry) (of : Option HostFault) (before : Counts) → IsWorking old before → Adds old new added of
      → CountsTrying (calls_for added) before (counts_of new) (IsOk (ending of)) (IsErrOf (ending of) fault.Disk) (IsErrOf (ending of) fault.Memory) ((has_failed old ≡ false) × (added ≡ [] → ⊥))
  trying old new added of before w adds =
      let few : before.calls + calls_for added < 2 ^ 64 = omega (arith, w.few, few_calls added) in
      subst (λ (k : Option Counts). IsTrying (calls_for added) k (counts_of new) (IsOk (ending of)) (IsErrOf (ending of) fault.Disk) (IsErrOf (ending of) fault.Memory) ((has_failed old ≡ false) × (added ≡ [] → ⊥))) w.counts_are adds.counts few

  -- a call of a host that is on, by its answer
  pub changed : (old new : Host J g) (added : List HostEntry) (of : Option HostFault) (before : Counts) → IsWorking old before → Adds old new added of
      → IsInAll old → (has_failed new ≡ false → IsTrue (tells new) → IsInAll new)
      → ((image : List ℕ) → IsTrue (tells new) → g.moment (journal_of old) ≤ g.moment (journal_of new) → images_of new image → g.left_since (journal_of new) (g.moment (journal_of old)) image)
      → ChangedBy old new added before of
  changed old new added None before w adds all_old all_new now =
      let told : IsTrue (tells new) = subst (λ (b : Bool). IsTrue b) (sym adds.stays.tells) w.told in
      let works : has_failed new ≡ false = adds.stays.still (not_disk tt) ∙ w.works in
      let t = trying old new added None before w adds in
      record {
        told = told;
        works = works;
        counts_are = t.added refl;
        past = λ within. ⊎_elim (not_disk tt) (not_memory tt) (t.goes_on (w.works, some_within added before within) within);
        grown = adds.grown old.readable;
        each = all_new works told;
      }
  changed old new added (Some fault.Disk) before w adds all_old all_new now =
      let told : IsTrue (tells new) = subst (λ (b : Bool). IsTrue b) (sym adds.stays.tells) w.told in
      let t = trying old new added (Some fault.Disk) before w adds in
      let images = adds.images w.told in
      record {
        within = (t.stopped refl).1;
        either = λ image left. ⊎_elim (λ earlier. inl (all_old image earlier)) (λ e. e) (images.each image (now image told images.later left));
      }
  changed old new added (Some fault.Failed) before w adds all_old all_new now = let is = (adds.failed_before refl).0 in let works = w.works in cc
  changed old new added (Some fault.Memory) before w adds all_old all_new now = tt

  -- a call that adds nothing
  rested : (old new : Host J g) (before : Counts) → Reads old new None → IsWorking old before → (has_failed new ≡ false → IsTrue (tells new) → IsInAll new) → Grew old new [] before
  rested old new before reads w all_new =
      let told : IsTrue (tells new) = subst (λ (b : Bool). IsTrue b) (sym reads.stays.tells) w.told in
      let works : has_failed new ≡ false = reads.stays.still (not_disk tt) ∙ w.works in
      let same : counts_of new ≡ Some before = subst (λ (k : Option Counts). StaysCounted k (counts_of new)) w.counts_are reads.counts in
      record {
        told = told;
        works = works;
        counts_are = same ∙ ap (λ (k : Counts). Some k) (counted_none before);
        past = none_within before;
        grown = reads.entries ∙ sym (append-nil (entries_of old));
        each = all_new works told;
      }

  -- no call
  pub resting : (host : Host J g) (before : Counts) → IsWorking host before → IsInAll host → Grew host host [] before
  resting host before w all = record {
    told = w.told;
    works = w.works;
    counts_are = w.counts_are ∙ ap (λ (k : Counts). Some k) (counted_none before);
    past = none_within before;
    grown = sym (append-nil (entries_of host));
    each = all;
  }

  -- a call that ends with no fault of the disk leaves the host at work
  pub heard_on : {T : Type 0} (old new : Host J g) (added : List HostEntry) (given : Result T HostFault) → Adds old new added (fault_of given) → OnOk given (has_failed new ≡ has_failed old)
  heard_on old new added (Ok value) adds = adds.stays.still (not_disk tt)
  heard_on old new added (Err fault) adds = tt

  pub published_on : (old new : Host J g) (rows : List Row) (given : Result ℕ PublishFault)
      → ((IsErrOf given P.SetLimit → ⊥) → Adds old new (Published (length (published (entries_of old)) + 1) rows ∷ []) (publish_fault_of given))
      → (IsErrOf given P.SetLimit → Reads old new None) → OnOk (said_published given) (has_failed new ≡ has_failed old)
  published_on old new rows (Ok version) adds limit = (adds (no_limit version)).stays.still (not_disk tt)
  published_on old new rows (Err P.SetLimit) adds limit = (limit refl).stays.still (not_disk tt)
  published_on old new rows (Err P.Disk) adds limit = tt
  published_on old new rows (Err P.Failed) adds limit = tt
  published_on old new rows (Err P.Memory) adds limit = tt

  -- a set is published, or not
  pub published_by : (old new : Host J g) (rows : List Row) (given : Result ℕ PublishFault) (before : Counts) → IsWorking old before
      → IfOk given (λ version. version ≡ length (published (entries_of old)) + 1)
      → OnOk given (MayPublish (has_failed old) (entries_of old))
      → IfErr given (IsPublishCause (has_failed old) (entries_of old))
      → ((IsErrOf given P.SetLimit → ⊥) → Adds old new (Published (length (published (entries_of old)) + 1) rows ∷ []) (publish_fault_of given))
      → (IsErrOf given P.SetLimit → Reads old new None)
      → IsInAll old → (has_failed new ≡ false → IsTrue (tells new) → IsInAll new)
      → ((image : List ℕ) → IsTrue (tells new) → g.moment (journal_of old) ≤ g.moment (journal_of new) → images_of new image → g.left_since (journal_of new) (g.moment (journal_of old)) image)
      → PublishedBy old new rows before given
  published_by old new rows (Ok version) before w version_is may refused adds limit all_old all_new now =
      (version_is, may.few, changed old new (Published (length (published (entries_of old)) + 1) rows ∷ []) None before w (adds (no_limit version)) all_old all_new now)
  published_by old new rows (Err P.SetLimit) before w version_is may refused adds limit all_old all_new now = (refused.1, rested old new before (limit refl) w all_new)
  published_by old new rows (Err P.Disk) before w version_is may refused adds limit all_old all_new now =
      (refused.few, changed old new (Published (length (published (entries_of old)) + 1) rows ∷ []) (Some fault.Disk) before w (adds no_limit_either) all_old all_new now)
  published_by old new rows (Err P.Failed) before w version_is may refused adds limit all_old all_new now = let works = w.works in let failed = refused in absurd (false≢true (sym works ∙ failed))
  published_by old new rows (Err P.Memory) before w version_is may refused adds limit all_old all_new now = tt
