-- What reading leaves of a host.
use Rattle.std.proofs.Common.{◌≡◌, Bool, true, Option, None, Ok, Err, refl, sym, ap, ◌∙◌, subst, IsTrue}
use Rattle.std.specs.Prelude.{Result, IsOk, OnOk, IsErrOf}
use Rattle.std.proofs.lemmas.Bool.{false≢true}
use Rattle.cap_disk.specs.Disk.{Counts, StaysCounted}
use Rattle.cap_journal.specs.declared.journal.Journal.{Ghosts}
use Rattle.cap_journal.specs.File.{Has}
use Rattle.cap_entries.specs.declared.host.HostEntry.{HostEntry}
use Rattle.cap_entries.specs.HostRecord.{host_reading}
use Rattle.cap_answering.specs.declared.fault.HostFault.{HostFault}
use Rattle.cap_answering.specs.declared.fault.HostFault.TheVariants.{Disk, Failed}
use Rattle.cap_host.specs.declared.host.Host.{Host}
use Rattle.cap_host.specs.Host.{entries_of, fault_of, Reads}
use Rattle.cap_plays.specs.Plays.{no_doubt}
use Rattle.cap_plays.specs.Holding.{end_fewer}
use Rattle.cap_host_lines.specs.Acts.{counts_of, images_of}
use Rattle.cap_host_lines.specs.Logs.{Keeps, Blames}

no_disk : {T : Type 0} (v : T) → IsErrOf {E = HostFault} (Ok v) Disk → ⊥
no_disk v is = cc

same_fault : {S T : Type 0} (fault other : HostFault) → IsErrOf {T = T} {E = HostFault} (Err fault) other → IsErrOf {T = S} {E = HostFault} (Err fault) other
same_fault {S = S} fault other is = let same : fault ≡ other = cc in ap (λ (f : HostFault). let r : Result S HostFault = Err f in r) same

pub ok_then : {A B D E : Type 0} (P : Type 0) (given : Result A D) (result : Result B E) → OnOk result (IsOk given) → OnOk given P → OnOk result P
ok_then P (Ok a) (Ok b) is p = p
ok_then P (Ok a) (Err e) is p = tt
ok_then P (Err d) (Ok b) is p = absurd (false≢true is)
ok_then P (Err d) (Err e) is p = tt

pub ok_map : {A D : Type 0} {P Q : Type 0} (given : Result A D) → (P → Q) → OnOk given P → OnOk given Q
ok_map (Ok a) f p = f p
ok_map (Err d) f p = tt

module _ {J : Type 0} {g : Ghosts J HostEntry} where
  kept : (old new : Host J g) → Reads old new None → Keeps old new
  kept old new reads = record {
    entries = reads.entries;
    works = reads.stays.still (no_disk tt);
    ready = λ s armed before ready. record {
      working = record {
        told = subst (λ (b : Bool). IsTrue b) (sym reads.stays.tells) ready.working.told;
        works = reads.stays.still (no_disk tt) ∙ ready.working.works;
        counts_are = subst (λ (k : Option Counts). StaysCounted k (counts_of new)) ready.working.counts_are reads.counts;
        few = ready.working.few;
      };
      is_armed = ready.is_armed;
      stands = end_fewer (Has host_reading) (images_of old) (images_of new) true (entries_of old) (entries_of new) s.settled s.tried s.on (no_doubt 0) ready.stands (λ on. reads.entries) (reads.leaves ready.working.told);
    };
  }

  pub kept_if : {T : Type 0} (old new : Host J g) (given : Result T HostFault) → Reads old new (fault_of given) → OnOk given (Keeps old new)
  kept_if old new (Ok v) reads = kept old new reads
  kept_if old new (Err fault) reads = tt

  pub blamed : {T : Type 0} (old new : Host J g) (given : Result T HostFault) → Reads old new (fault_of given) → Blames old new given
  blamed old new (Ok v) reads = record { later = reads.stays.faults; disk = λ is. absurd (no_disk v is); never_failed = λ is. let no : ⊥ = cc in no }
  blamed old new (Err fault) reads = record {
    later = reads.stays.faults;
    disk = λ is. reads.stays.disk (same_fault fault Disk is);
    never_failed = λ is. reads.never_failed (same_fault fault Failed is);
  }

  pub keeps_same : (host : Host J g) → Keeps host host
  keeps_same host = record { entries = refl; works = refl; ready = λ s armed before ready. ready }

  pub keeps_both : (old middle new : Host J g) → Keeps old middle → Keeps middle new → Keeps old new
  keeps_both old middle new first then = record {
    entries = then.entries ∙ first.entries;
    works = then.works ∙ first.works;
    ready = λ s armed before ready. then.ready s armed before (first.ready s armed before ready);
  }
