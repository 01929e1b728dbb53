-- Words that the contracts of this crate are short by.
use Rattle.std.specs.Prelude.{◌≡◌, ℕ, Option, Some, Result, IfOk, IfErr}
use Rattle.cap_base.specs.declared.failure.Memory.{Memory}
use Rattle.cap_disk.specs.MemoryDisk.{told_of}
use Rattle.cap_disk.specs.declared.memory.MemoryDisk.{MemoryDisk}
use Rattle.cap_journal.specs.Told.{StopsWithin}

-- the disk has answered so many calls, and this is the next that fails
abbrev pub HasCounted : (calls : ℕ) → (stop : Option ℕ) → MemoryDisk → Type 0
HasCounted calls stop disk = told_of disk ≡ Some (record { calls = calls; stop = stop })

-- one of the two calls of an opening is the one that fails
abbrev pub StopsInTwo : (stop : Option ℕ) → Type 0
StopsInTwo stop = StopsWithin 2 (record { calls = 0; stop = stop })

-- what holds of what was opened, and of the disk that is given back where a call of it failed
abbrev pub OnOpened : {T : Type 0} → Result (Result T MemoryDisk) Memory → (T → Type 0) → Type 0
OnOpened result P = IfOk result (λ tried. IfOk tried P)

abbrev pub OnGivenBack : {T : Type 0} → Result (Result T MemoryDisk) Memory → (MemoryDisk → Type 0) → Type 0
OnGivenBack result P = IfOk result (λ tried. IfErr tried P)
