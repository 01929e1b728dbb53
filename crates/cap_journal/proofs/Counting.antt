-- The numbers of a disk over an opening.
use Rattle.std.proofs.Common.{◌≡◌, ⊎_elim, ◌+◌, ◌≤◌, Option, Some, None, IsSomeAnd, refl, sym, subst, arith}
use Rattle.cap_disk.specs.Disk.{Counts, StaysCounted}
use Rattle.cap_journal.specs.Told.{StopsWithin, counted, IsQuiet}
use Rattle.cap_journal.specs.Opening.{CountsOpening, IsOpening}

-- the reads behind the two calls are not counted
module _ (ok disk memory : Type 0) where
  read_told : (old : Counts) (k2 : Option Counts) (ok' disk' memory' : Type 0) → (StopsWithin 2 old → ⊥) → StaysCounted (Some (counted 2 old)) k2 → IsQuiet (Some (counted 2 old)) disk' → CountsOpening old k2 ok' disk' memory'
  read_told old k2 ok' disk' memory' within stays quiet = record {
    opened = λ is. stays;
    stopped = λ is. absurd (quiet is);
    goes_on = λ w. absurd (within w);
    stays = λ is. subst (λ (k : Option Counts). IsSomeAnd k (λ now. (now.stop ≡ old.stop) × (old.calls ≤ now.calls) × (now.calls ≤ old.calls + 2))) (sym stays) (refl, omega arith, omega arith);
  }

  pub read_counts : (k0 k1 k2 : Option Counts) (ok' disk' memory' : Type 0) → ok → (disk → ⊥) → (memory → ⊥) → IsOpening k0 k1 ok disk memory → StaysCounted k1 k2 → IsQuiet k1 disk' → IsOpening k0 k2 ok' disk' memory'
  read_counts None k1 k2 ok' disk' memory' is no_disk no_memory opening stays quiet = tt
  read_counts (Some old) k1 k2 ok' disk' memory' is no_disk no_memory opening stays quiet = λ small.
      (let one : CountsOpening old k1 ok disk memory = opening small in
      read_told old k2 ok' disk' memory' (λ w. ⊎_elim no_disk no_memory (one.goes_on w)) (subst (λ (k : Option Counts). StaysCounted k k2) (one.opened is) stays) (subst (λ (k : Option Counts). IsQuiet k disk') (one.opened is) quiet))
