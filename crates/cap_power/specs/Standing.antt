-- How an end with its power stands to an end of the model.
use Rattle.std.specs.Prelude.{◌≡◌, ℕ, Bool, true, false, List, [], None, ⊤}
use Rattle.cap_disk.specs.MemoryDisk.{told_of}
use Rattle.cap_disk.specs.declared.memory.MemoryDisk.{MemoryDisk}
use Rattle.cap_plays.specs.Plays.{Doubt}
use Rattle.cap_plays.specs.Corresponds.{EachHas, EndCorresponds}
use Rattle.cap_schedule.specs.declared.outcome.Outcome.{Outcome}
use Rattle.cap_schedule.specs.declared.outcome.Outcome.TheVariants.{Restarted}
use Rattle.cap_power.specs.Counting.{Counting}
use Rattle.cap_power.specs.Images.{images_of}
use Rattle.cap_power.specs.declared.power.Power.{Power}
use Rattle.cap_power.specs.declared.power.Power.TheVariants.{On, Off, Lent}
use Rattle.cap_power.specs.declared.power.Settled.{Settled}

-- on, with these entries; or off, where only the images count. Nothing stands for an end in other hands
abbrev pub Stands : {T Entry : Type 0} → (has : List ℕ → List Entry → Type 0) → (entries : T → List Entry) → (disk : T → MemoryDisk)
    → Power T → (settled tried : List Entry) → (is_on : Bool) → Doubt → Type 0
Stands has entries disk (On end) settled tried is_on doubt = EndCorresponds has (images_of (disk end)) true (entries end) settled tried is_on doubt
Stands has entries disk (Off left) settled tried is_on doubt = EndCorresponds has (images_of left) false [] settled tried is_on doubt
Stands has entries disk Lent settled tried is_on doubt = ⊥

-- where the end is on, no call of its disk has failed, nothing is armed on the disk, and it has answered at most so many calls
abbrev pub IsReady : {T : Type 0} → (has_failed : T → Bool) → (disk : T → MemoryDisk) → (most : ℕ) → Power T → Type 0
IsReady has_failed disk most (On end) = (has_failed end ≡ false) × Counting None most (told_of (disk end))
IsReady has_failed disk most (Off left) = ⊤
IsReady has_failed disk most Lent = ⊤

-- a call of the disk of an end that is on has failed
abbrev pub fails : {T : Type 0} → (has_failed : T → Bool) → Power T → Bool
fails has_failed (On end) = has_failed end
fails has_failed (Off left) = false
fails has_failed Lent = false

-- on after an opening, with this list in every image
pub record IsOnWith {T Entry : Type 0} (has : List ℕ → List Entry → Type 0) (entries : T → List Entry) (disk : T → MemoryDisk) (list : List Entry) (after : Settled T) : Type 0 where
  pub end : T
  pub power_is : after.power ≡ On end
  pub entries_are : entries end ≡ list
  pub each : EachHas has (images_of (disk end)) list
  pub outcome_is : after.outcome ≡ Restarted

-- off, with one image, which is one of this disk's
pub record IsOffWithOne {T : Type 0} (old : MemoryDisk) (outcome : Outcome) (after : Settled T) : Type 0 where
  pub left : MemoryDisk
  pub that : List ℕ
  pub power_is : after.power ≡ Off left
  pub is_old : images_of old that
  pub one : (image : List ℕ) → images_of left image → image ≡ that
  pub outcome_is : after.outcome ≡ outcome
