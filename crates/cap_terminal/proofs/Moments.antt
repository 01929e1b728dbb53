-- What may be left during two calls in a row.
use Rattle.std.proofs.Common.{ℕ, List, Option, Some, None, subst, inl, inr, ⊎_elim, arith}
use Rattle.cap_disk.specs.Disk.{Counts, LeavesOnly, StaysCounted, IsQuiet}

-- a call that leaves only what could be left before it
pub leaves_weaker : {D : Type 0} (moment : D → ℕ) (left_since : D → ℕ → List ℕ → Type 0) (old new : D) (P Q : List ℕ → Type 0) → ((image : List ℕ) → P image → Q image) → LeavesOnly moment left_since old new P → LeavesOnly moment left_since old new Q
leaves_weaker moment left_since old new P Q weaker only = record {
  later = only.later;
  each = λ image left. weaker image (only.each image left);
  before = λ t image le left. ⊎_elim (λ earlier. inl earlier) (λ p. inr (weaker image p)) (only.before t image le left);
}

-- and behind it another
pub leaves_through : {D : Type 0} (moment : D → ℕ) (left_since : D → ℕ → List ℕ → Type 0) (old mid new : D) (Q : List ℕ → Type 0) → LeavesOnly moment left_since old mid Q → LeavesOnly moment left_since mid new Q → LeavesOnly moment left_since old new Q
leaves_through moment left_since old mid new Q first second = record {
  later = omega (arith, first.later, second.later);
  each = λ image left. ⊎_elim (λ earlier. first.each image earlier) (λ q. q) (second.before (moment old) image first.later left);
  before = λ t image le left. ⊎_elim (λ earlier. first.before t image le earlier) (λ q. inr q) (second.before t image (omega (arith, le, first.later)) left);
}

-- two calls that each leave only what could be left before them
pub leaves_same : {D : Type 0} (moment : D → ℕ) (left_since : D → ℕ → List ℕ → Type 0) (may_leave : D → List ℕ → Type 0) (old mid new : D) → ((image : List ℕ) → may_leave mid image → left_since mid (moment old) image)
    → LeavesOnly moment left_since old mid (may_leave old) → LeavesOnly moment left_since mid new (may_leave mid) → LeavesOnly moment left_since old new (may_leave old)
leaves_same moment left_since may_leave old mid new here first second =
    leaves_through moment left_since old mid new (may_leave old) first
    (leaves_weaker moment left_since mid new (may_leave mid) (may_leave old) (λ image left. first.each image (here image left)) second)

pub stays_through : (a b c : Option Counts) → StaysCounted a b → StaysCounted b c → StaysCounted a c
stays_through None b c first second = tt
stays_through (Some counts) b c first second = subst (λ (o : Option Counts). StaysCounted o c) first second

-- no call that isn't counted fails after others that aren't
pub quiet_through : (a b : Option Counts) (disk : Type 0) → StaysCounted a b → IsQuiet b disk → IsQuiet a disk
quiet_through None b disk same quiet = tt
quiet_through (Some counts) b disk same quiet = subst (λ (o : Option Counts). IsQuiet o disk) same quiet

pub quiet_never : (counts : Option Counts) (disk : Type 0) → (disk → ⊥) → IsQuiet counts disk
quiet_never None disk never = tt
quiet_never (Some counts) disk never = never
