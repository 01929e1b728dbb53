-- What a call that adds entries says of the images that a crash may leave.
use Rattle.std.specs.Prelude.{◌≡◌, ◌⊎◌, ◌↔◌, ℕ, ◌+◌, ◌^◌, ◌<◌, List, Option, Some, None, ⊤}
use Rattle.cap_disk.specs.Disk.{Counts}
use Rattle.cap_journal.specs.File.{Reading, Has}
use Rattle.cap_journal.specs.Told.{StopsWithin, counted}

-- every image that a crash may leave now has these entries
abbrev pub EveryImageHas : {J : Type 0} {E : Type 0} → (J → List ℕ → Type 0) → Reading E → J → List E → Type 0
EveryImageHas may_leave reading journal list = (image : List ℕ) → may_leave journal image → Has reading image list

-- every image that a crash may leave now has this
abbrev pub EveryImage : {J : Type 0} → (J → List ℕ → Type 0) → J → (List ℕ → Type 0) → Type 0
EveryImage may_leave journal P = (image : List ℕ) → may_leave journal image → P image

-- the numbers of the disk in a call of n device calls: where it added, where its answer is Disk, and else; would: all that could keep it from
-- adding, but the disk, does not hold
pub record CountsAdding (n : ℕ) (old : Counts) (new : Option Counts) (ok disk would : Type 0) : Type 0 where
  pub added : ok → new ≡ Some (counted n old)
  pub stopped : disk ↔ (would × StopsWithin n old)
  pub other : (ok → ⊥) → (disk → ⊥) → new ≡ Some old

-- the same where the numbers are told
abbrev pub IsAdding : ℕ → Option Counts → Option Counts → Type 0 → Type 0 → Type 0 → Type 0
IsAdding n None new ok disk would = ⊤
IsAdding n (Some old) new ok disk would = old.calls + n < 2 ^ 64 → CountsAdding n old new ok disk would

-- the same for a call that may lack memory
pub record CountsTrying (n : ℕ) (old : Counts) (new : Option Counts) (ok disk memory would : Type 0) : Type 0 where
  pub added : ok → new ≡ Some (counted n old)
  pub stopped : disk → would × StopsWithin n old
  pub goes_on : would → StopsWithin n old → disk ⊎ memory
  pub other : (ok → ⊥) → (disk → ⊥) → new ≡ Some old

abbrev pub IsTrying : ℕ → Option Counts → Option Counts → Type 0 → Type 0 → Type 0 → Type 0 → Type 0
IsTrying n None new ok disk memory would = ⊤
IsTrying n (Some old) new ok disk memory would = old.calls + n < 2 ^ 64 → CountsTrying n old new ok disk memory would
