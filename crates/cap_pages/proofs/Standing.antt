-- Every image has the entries at its head: after a call that did what it says, and after one that the disk broke.
use Rattle.std.proofs.Common.{◌≡◌, ℕ, ◌≤◌, List, ◌++◌, take, ap, sym, subst, arith, ◌∙◌}
use Rattle.cap_disk.specs.Disk.{Contents, MayLeave, LeavesOnly}
use Rattle.cap_journal.specs.File.{Reading, Whole, HasEither, journal_of, entries_found}
use Rattle.cap_journal.specs.Group.{IsSettled}
use Rattle.cap_journal.specs.Kept.{EveryOne, HasFront, has_front, either_front, kept_by}
use Rattle.cap_pages.specs.Paged.{listed}

pub settled_stands : {E : Type 0} (reading : Reading E) (contents : Contents) (list : List E) (gates : List ℕ) (end : ℕ) → IsSettled contents → journal_of reading contents.shown ≡ Whole list gates end → EveryOne (MayLeave contents) (HasFront reading list)
settled_stands reading contents list gates end settled whole image left =
    has_front reading list image (kept_by reading contents list image settled.nothing_written settled.same (ap entries_found whole) left)

-- the list is what these marks name below the last gate, where the bytes stay
pub broken_stands : {E : Type 0} (reading : Reading E) (images : List ℕ → Type 0) (old new : List ℕ) (end : ℕ) (marks now : List ℕ) (added : List E) → take end new ≡ take end old → now ≡ marks
    → EveryOne images (HasEither reading (listed reading (take end old) marks) (listed reading (take end old) marks ++ added)) → EveryOne images (HasFront reading (listed reading (take end new) now))
broken_stands {E = E} reading images old new end marks now added front same either image left =
    let list : listed reading (take end old) marks ≡ listed reading (take end new) now = ap (λ (l : List ℕ). listed reading l marks) (sym front) ∙ ap (λ (l : List ℕ). listed reading (take end new) l) (sym same) in
    subst (λ (l : List E). HasFront reading l image) list (either_front reading (listed reading (take end old) marks) added image (either image left))
