-- A group that is written behind the last gate.
use Rattle.std.specs.Prelude.{◌≡◌, ◌⊎◌, ℕ, ◌+◌, ◌^◌, ◌≤◌, ◌<◌, List, [], ◌∷◌, ◌++◌, Option, Some, None, Result, OnOk, OnErr, ⊤}
use Rattle.cap_disk.specs.Disk.{Contents, Counts}

-- all that is there is on the disk
pub record IsSettled (contents : Contents) : Type 0 where
  pub nothing_written : contents.written ≡ []
  pub same : contents.synced ≡ contents.shown

-- the image begins with these bytes and this gate
pub record HasGate (front : List ℕ) (gate : ℕ) (image : List ℕ) : Type 0 where
  pub rest : List ℕ
  pub is : image ≡ front ++ (gate ∷ rest)

-- the image begins with these bytes, some gate, and this group
pub record HasGroup (front group image : List ℕ) : Type 0 where
  pub gate : ℕ
  pub rest : List ℕ
  pub is : image ≡ front ++ (gate ∷ (group ++ rest))

-- n calls of a disk, of which the last one may have failed, where it tells its numbers
pub record CountsRun (n : ℕ) {T E : Type 0} (old : Counts) (new : Option Counts) (result : Result T E) : Type 0 where
  pub counted : OnOk result (new ≡ Some (record { calls = old.calls + n; stop = old.stop }))
  pub goes_on : OnOk result ((stop : ℕ) → old.stop ≡ Some stop → old.calls < stop → stop ≤ old.calls + n → ⊥)
  pub stopped : OnErr result ((stop : ℕ) × (old.stop ≡ Some stop) × (old.calls < stop) × (stop ≤ old.calls + n))

abbrev pub IsRun : ℕ → {T E : Type 0} → Option Counts → Option Counts → Result T E → Type 0
IsRun n None new result = ⊤
IsRun n (Some old) new result = old.calls + n < 2 ^ 64 → CountsRun n old new result

-- the image begins with these bytes, an open gate, and this group
pub record IsOpened (front group image : List ℕ) : Type 0 where
  pub rest : List ℕ
  pub is : image ≡ front ++ (165 ∷ (group ++ rest))

-- what a crash may leave of a group that is written behind the gate after these bytes
abbrev pub HasGateOrGroup : List ℕ → ℕ → List ℕ → List ℕ → Type 0
HasGateOrGroup front gate group image = HasGate front gate image ⊎ HasGroup front group image

-- the records of these entries, one behind the other
abbrev pub joined : {E : Type 0} → (E → List ℕ) → List E → List ℕ
joined bytes_of [] = []
joined bytes_of (e ∷ es) = bytes_of e ++ joined bytes_of es
