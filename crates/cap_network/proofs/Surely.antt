-- Where nothing is tried, it does not matter how much of it the next opening may keep.
use Rattle.std.specs.Prelude.{ℕ, Bool, true, false, List, [], ◌++◌}
use Rattle.std.proofs.Common.{refl, sym, ◌∙◌, ap, subst, inl}
use Rattle.std.proofs.Math.Seq.{take-nil}
use Rattle.cap_disk.specs.declared.memory.MemoryDisk.{MemoryDisk}
use Rattle.cap_plays.specs.Plays.{Doubt}
use Rattle.cap_plays.specs.Corresponds.{Holds, EndCorresponds}
use Rattle.cap_power.specs.Images.{images_of}
use Rattle.cap_power.specs.Standing.{Stands}
use Rattle.cap_power.specs.declared.power.Power.{Power}
use Rattle.cap_power.specs.declared.power.Power.TheVariants.{On, Off, Lent}

holds_any : {Entry : Type 0} (has : List ℕ → List Entry → Type 0) (images : List ℕ → Type 0) (settled : List Entry) (old new : Doubt) → Holds has images settled [] old → Holds has images settled [] new
holds_any has images settled old new holds = λ image left.
    let (kept, keeps, held) = holds image left in
    (new.least, inl refl, subst (has image) (ap (λ l. settled ++ l) (take-nil kept ∙ sym (take-nil new.least))) held)

end_any : {Entry : Type 0} (has : List ℕ → List Entry → Type 0) (images : List ℕ → Type 0) (on : Bool) (entries settled : List Entry) (is_on : Bool) (old new : Doubt)
    → EndCorresponds has images on entries settled [] is_on old → EndCorresponds has images on entries settled [] is_on new
end_any has images on entries settled is_on old new stands = record {
  on_is = stands.on_is;
  entries_are = stands.entries_are;
  none_tried = stands.none_tried;
  holds = holds_any has images settled old new stands.holds;
}

pub stands_any : {T Entry : Type 0} (has : List ℕ → List Entry → Type 0) (entries : T → List Entry) (disk : T → MemoryDisk) (power : Power T) (settled : List Entry) (is_on : Bool) (old new : Doubt)
    → Stands has entries disk power settled [] is_on old → Stands has entries disk power settled [] is_on new
stands_any has entries disk (On end) settled is_on old new stands = end_any has (images_of (disk end)) true (entries end) settled is_on old new stands
stands_any has entries disk (Off left) settled is_on old new stands = end_any has (images_of left) false [] settled is_on old new stands
stands_any has entries disk Lent settled is_on old new stands = stands
