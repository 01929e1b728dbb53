-- What opening and formatting say of the two numbers of a disk: opening makes two calls, the sync and the length, and formatting three, the length, a write and a sync.
use Rattle.std.specs.Prelude.{◌≡◌, ◌+◌, ◌^◌, ◌≤◌, ◌<◌, ◌⊎◌, Option, Some, None, IsSomeAnd, ⊤}
use Rattle.cap_disk.specs.Disk.{Counts}
use Rattle.cap_journal.specs.Told.{StopsWithin, counted}

-- where it was opened, where its answer is `Disk`, and where memory lacked
pub record CountsOpening (old : Counts) (new : Option Counts) (ok disk memory : Type 0) : Type 0 where
  pub opened : ok → new ≡ Some (counted 2 old)
  pub stopped : disk → StopsWithin 2 old
  pub goes_on : StopsWithin 2 old → disk ⊎ memory
  pub stays : (disk → ⊥) → IsSomeAnd new (λ now. (now.stop ≡ old.stop) × (old.calls ≤ now.calls) × (now.calls ≤ old.calls + 2))

-- the same where the numbers are told
abbrev pub IsOpening : Option Counts → Option Counts → Type 0 → Type 0 → Type 0 → Type 0
IsOpening None new ok disk memory = ⊤
IsOpening (Some old) new ok disk memory = old.calls + 2 < 2 ^ 64 → CountsOpening old new ok disk memory

-- the call that fails is the second, the length
abbrev pub StopsAtLength : Option Counts → Type 0
StopsAtLength None = ⊥
StopsAtLength (Some old) = (old.calls + 2 < 2 ^ 64) × (old.stop ≡ Some (old.calls + 2))

-- where it was formatted, and where its answer is `Disk`
pub record CountsFormatting (old : Counts) (new : Option Counts) (ok disk : Type 0) : Type 0 where
  pub formatted : ok → new ≡ Some (counted 3 old)
  pub goes_on : ok → StopsWithin 3 old → ⊥
  pub stopped : disk → StopsWithin 3 old
  pub stays : (disk → ⊥) → IsSomeAnd new (λ now. (now.stop ≡ old.stop) × (old.calls ≤ now.calls) × (now.calls ≤ old.calls + 3))

-- the same where the numbers are told
abbrev pub IsFormatting : Option Counts → Option Counts → Type 0 → Type 0 → Type 0
IsFormatting None new ok disk = ⊤
IsFormatting (Some old) new ok disk = old.calls + 3 < 2 ^ 64 → CountsFormatting old new ok disk
