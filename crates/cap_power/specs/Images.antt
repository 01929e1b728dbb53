-- The images that a crash may leave of a disk in memory.
use Rattle.std.specs.Prelude.{◌≡◌, ℕ, ◌≤◌, Bool, true, false, List, Some, None}
use Rattle.std.proofs.Common.{ap, subst, sym}
use Rattle.cap_disk.specs.Disk.{Contents, MayLeave, LeavesOnly}
use Rattle.cap_disk.specs.History.{start, after, left_now}
use Rattle.cap_disk.specs.Recorded.{History}
use Rattle.cap_disk.specs.MemoryDisk.{contents_of, history_of, moment_of, left_of, told_of}
use Rattle.cap_disk.specs.declared.memory.MemoryDisk.{MemoryDisk}

abbrev pub images_of : MemoryDisk → List ℕ → Type 0
images_of disk = MayLeave (contents_of disk)

-- each image of the new disk is one of the old disk's
abbrev pub NoOthers : MemoryDisk → MemoryDisk → Type 0
NoOthers old new = (image : List ℕ) → images_of new image → images_of old image

-- the new disk has one image, which is one of the old disk's; its calls count from 0, and nothing is armed on it
pub record IsRestarted (old new : MemoryDisk) : Type 0 where
  pub that : List ℕ
  pub is_old : images_of old that
  pub one : (image : List ℕ) → images_of new image → image ≡ that
  pub counts : told_of new ≡ Some (record { calls = 0; stop = None })

-- what a cut leaves of a disk, and what a call that failed leaves of it: the disk itself
abbrev pub IsLeftBy : (cut : Bool) → MemoryDisk → MemoryDisk → Type 0
IsLeftBy true old new = IsRestarted old new
IsLeftBy false old new = new ≡ old

-- where nothing else is left during some calls
pub no_others_since : (old new : MemoryDisk) → LeavesOnly moment_of left_of old new (images_of old) → NoOthers old new
no_others_since old new time image left = time.each image (left_now (start new.recorded.first.items) new.recorded.log.items new.recorded.bytes.items (moment_of old) image time.later left)

-- a moment since which an image counts
pub left_since_now : (disk : MemoryDisk) (t : ℕ) (image : List ℕ) → t ≤ moment_of disk → images_of disk image → left_of disk t image
left_since_now disk t image le left = left_now (start disk.recorded.first.items) disk.recorded.log.items disk.recorded.bytes.items t image le left

-- where the recorded calls are the same
abbrev contents_in_history : History → Contents
contents_in_history h = after (start h.first) h.log h.bytes

pub no_others_by_history : (old new : MemoryDisk) → history_of new ≡ history_of old → NoOthers old new
no_others_by_history old new same image left = subst (λ (c : Contents). MayLeave c image) (ap contents_in_history same) left

pub no_others_restarted : (old new : MemoryDisk) → IsRestarted old new → NoOthers old new
no_others_restarted old new is image left = subst (images_of old) (sym (is.one image left)) is.is_old

pub no_others_left : (cut : Bool) (old new : MemoryDisk) → IsLeftBy cut old new → NoOthers old new
no_others_left true old new is = no_others_restarted old new is
no_others_left false old new is = λ image left. subst (λ (d : MemoryDisk). images_of d image) is left
