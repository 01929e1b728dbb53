-- What images have: the entries that were written, at their head or alone.
use Rattle.std.specs.Prelude.{◌≡◌, ◌++◌, ℕ, List, [], length, take, Some, option_map, IsTrue, false}
use Rattle.std.proofs.Common.{◌∙◌, ap, ⊎_elim, sym, subst}
use Rattle.std.proofs.Math.Seq.{take-append_seam, take-length}
use Rattle.cap_disk.specs.Disk.{Contents, MayLeave}
use Rattle.cap_disk.specs.Moments.{leaves_none}
use Rattle.cap_journal.specs.File.{Reading, entries_in, Has, HasEither}

-- the entries of the image begin with these
abbrev pub HasFront : {E : Type 0} → Reading E → List E → List ℕ → Type 0
HasFront reading list image = option_map (take (length list)) (entries_in reading image) ≡ Some list

abbrev pub EveryOne : (List ℕ → Type 0) → (List ℕ → Type 0) → Type 0
EveryOne images P = (image : List ℕ) → images image → P image

pub kept_by : {E : Type 0} (reading : Reading E) (contents : Contents) (list : List E) (image : List ℕ) → contents.written ≡ [] → contents.synced ≡ contents.shown → entries_in reading contents.shown ≡ Some list → MayLeave contents image → Has reading image list
kept_by reading contents list image written synced parsed left = ap (λ (l : List ℕ). entries_in reading l) (leaves_none contents image written left ∙ synced) ∙ parsed

-- what tells nothing has every law of its images
pub untold : {A : Type 0} → IsTrue false → A
untold told = cc

-- an image that has the entries has them at its head
pub has_front : {E : Type 0} (reading : Reading E) (list : List E) (image : List ℕ) → Has reading image list → HasFront reading list image
has_front reading list image has = ap (λ o. option_map (take (length list)) o) has ∙ ap (λ l. Some l) (take-length list)

-- so has one that has these entries and more behind them, or these alone
pub either_front : {E : Type 0} (reading : Reading E) (list added : List E) (image : List ℕ) → HasEither reading list (list ++ added) image → HasFront reading list image
either_front reading list added image either = ⊎_elim (has_front reading list image) (λ all. ap (λ o. option_map (take (length list)) o) all ∙ ap (λ l. Some l) (take-append_seam list added)) either
