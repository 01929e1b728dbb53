-- How a run of calls of a disk goes on.
use Rattle.std.proofs.Common.{◌≡◌, inl, inr, ⊎_elim, ℕ, List, [], ◌∷◌, arith, subst}
use Rattle.cap_disk.specs.Disk.{Contents, Leaves, MayLeave, KeepsOutside, Elapses, LeavesOnly}

module _ {D : Type 0} (moment : D → ℕ) (left_since : D → ℕ → List ℕ → Type 0) where
  -- before the first call
  pub started : (old : D) (P : List ℕ → Type 0) → ((image : List ℕ) → left_since old (moment old) image → P image) → LeavesOnly moment left_since old old P
  started old P here = record { later = omega arith; each = here; before = λ t image le left. inl left }

  -- one call more, after which a crash leaves what has P
  pub goes_on : (old mid new : D) (P may_leave : List ℕ → Type 0) → LeavesOnly moment left_since old mid P → Elapses (moment mid) (moment new) (left_since mid) (left_since new) may_leave
      → ((image : List ℕ) → may_leave image → P image) → LeavesOnly moment left_since old new P
  goes_on old mid new P may_leave so_far time here = record {
    later = omega (arith, so_far.later, time.later);
    each = λ image left. ⊎_elim (so_far.each image) (here image) (time.nothing_else (moment old) image so_far.later left);
    before = λ t image le left. ⊎_elim (so_far.before t image le) (λ now. inr (here image now)) (time.nothing_else t image (omega (arith, le, so_far.later)) left);
  }

  -- two runs, one after the other
  pub joined : (old mid new : D) (P Q R : List ℕ → Type 0) → LeavesOnly moment left_since old mid P → LeavesOnly moment left_since mid new Q → ((image : List ℕ) → P image → R image) → ((image : List ℕ) → Q image → R image) → LeavesOnly moment left_since old new R
  joined old mid new P Q R first second p q = record {
    later = omega (arith, first.later, second.later);
    each = λ image left. ⊎_elim (λ was. p image (first.each image was)) (q image) (second.before (moment old) image first.later left);
    before = λ t image le left. ⊎_elim (λ was. ⊎_elim (λ past. inl past) (λ is. inr (p image is)) (first.before t image le was)) (λ is. inr (q image is)) (second.before t image (omega (arith, le, first.later)) left);
  }

  -- a weaker word for the same run
  pub weaker : (old new : D) (P Q : List ℕ → Type 0) → LeavesOnly moment left_since old new P → ((image : List ℕ) → P image → Q image) → LeavesOnly moment left_since old new Q
  weaker old new P Q run as_q = record {
    later = run.later;
    each = λ image left. as_q image (run.each image left);
    before = λ t image le left. ⊎_elim (λ past. inl past) (λ is. inr (as_q image is)) (run.before t image le left);
  }

-- with one range written, an image keeps the synced bytes outside of it
pub leaves_one : (contents : Contents) (range : ℕ × ℕ) (bytes image : List ℕ) → contents.written ≡ range ∷ [] → contents.synced ≡ bytes → MayLeave contents image → KeepsOutside (range ∷ []) bytes image
leaves_one contents range bytes image written synced left = subst (λ b. KeepsOutside (range ∷ []) b image) synced (subst (λ w. Leaves w contents.synced image) written left)

-- with nothing written, it is the synced bytes
pub leaves_none : (contents : Contents) (image : List ℕ) → contents.written ≡ [] → MayLeave contents image → image ≡ contents.synced
leaves_none contents image written left = subst (λ w. Leaves w contents.synced image) written left
