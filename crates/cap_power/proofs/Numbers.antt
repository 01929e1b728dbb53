-- The two numbers of a disk in memory, once a call of it is armed.
use Rattle.std.proofs.Common.{◌≡◌, ℕ, ◌+◌, ◌≤◌, Bool, true, false, Option, Some, None, refl, sym, ◌∙◌, ap, subst, arith}
use Rattle.std.specs.Prelude.{nat_lt, nat_le, if◌then◌else◌}
use Rattle.std.proofs.lemmas.Option.{same_Some, none-some}
use Rattle.std.proofs.lemmas.Bool.Decides.{nat_tests}
use Rattle.cap_disk.specs.Disk.{Counts}
use Rattle.cap_disk.specs.Switch.{stop_of, numbers_on}
use Rattle.cap_disk.specs.MemoryDisk.{told_of, armed}
use Rattle.cap_disk.specs.declared.arming.Fill.{Fill}
use Rattle.cap_disk.specs.declared.arming.Counted.{Counted}
use Rattle.cap_disk.specs.declared.arming.Counted.TheVariants.{All, NoReads}
use Rattle.cap_disk.specs.declared.memory.MemoryDisk.{MemoryDisk}
use Rattle.cap_journal.specs.Told.{StopsWithin}
use Rattle.cap_schedule.specs.declared.schedule.Prefix.{Prefix}
use Rattle.cap_schedule.specs.declared.schedule.Prefix.TheVariants.{Cut, Fail}
use Rattle.cap_power.specs.Counting.{Counting, CountsFromOne}

abbrev counts_with : Counts → ℕ → Counts
counts_with c call = record { calls = c.calls; stop = stop_of c.calls call }

all_known : (b : Bool) (calls call : ℕ) (c : Counts) → (if b then None else Some (let x : Counts = record { calls = calls; stop = None } in x)) ≡ Some c → calls ≡ c.calls
all_known true calls call c is = absurd (none-some c is)
all_known false calls call c is = ap (λ (k : Counts). k.calls) (same_Some _ _ is)

-- a disk that tells its numbers tells those with the call
numbers_known : (cut : Option Fill) (counted : Counted) (calls left call : ℕ) (c : Counts) → numbers_on cut counted calls left ≡ Some c → numbers_on cut NoReads calls call ≡ Some (counts_with c call)
numbers_known (Some fill) counted calls left call c is = absurd (none-some c is)
numbers_known None NoReads calls left call c is = ap (λ (n : ℕ). let x : Counts = record { calls = n; stop = stop_of n call } in Some x) (ap (λ (k : Counts). k.calls) (same_Some _ _ is))
numbers_known None All calls left call c is = ap (λ (n : ℕ). let x : Counts = record { calls = n; stop = stop_of n call } in Some x) (all_known (nat_lt 0 left) calls call c is)

pub told_armed : (disk : MemoryDisk) (call : ℕ) (c : Counts) → told_of disk ≡ Some c → armed disk NoReads call ≡ Some (record { calls = c.calls; stop = stop_of c.calls call })
told_armed disk call c is = numbers_known disk.switch.cut disk.switch.plan.counted disk.switch.calls disk.switch.plan.left call c is

stop_of_either : (b : Bool) (calls call : ℕ) → nat_lt 0 call ≡ b → 1 ≤ call → (if b then Some (calls + call) else None) ≡ Some (calls + call)
stop_of_either true calls call is some = refl
stop_of_either false calls call is some = absurd (grind (arith, nat_tests))

-- counted from 1
pub stop_is : (calls call : ℕ) → 1 ≤ call → stop_of calls call ≡ Some (calls + call)
stop_is calls call some = stop_of_either (nat_lt 0 call) calls call refl some

pub told_with : (disk : MemoryDisk) (call : ℕ) (c : Counts) → told_of disk ≡ Some c → 1 ≤ call → armed disk NoReads call ≡ Some (record { calls = c.calls; stop = Some (c.calls + call) })
told_with disk call c is some = told_armed disk call c is ∙ ap (λ (s : Option ℕ). let x : Counts = record { calls = c.calls; stop = s } in Some x) (stop_is c.calls call some)

-- a restarted disk, with a call armed
pub told_anew : (disk : MemoryDisk) (call : ℕ) → told_of disk ≡ Some (record { calls = 0; stop = None }) → 2 ≤ call → armed disk NoReads call ≡ Some (record { calls = 0; stop = Some call })
told_anew disk call is some =
    told_with disk call (record { calls = 0; stop = None }) is (omega arith)
    ∙ ap (λ (n : ℕ). let x : Counts = record { calls = 0; stop = Some n } in Some x) (omega arith)

-- whether the call is one of the two of an opening
past_either : (call : ℕ) (b : Bool) → nat_le call 2 ≡ b → 2 ≤ call → (StopsWithin 2 (record { calls = 0; stop = Some call }) → ⊥) → nat_le call 2 ≡ false
past_either call true is some out = absurd (out (omega (arith, some), grind (arith, nat_tests)))
past_either call false is some out = is

pub is_past : (call : ℕ) → 2 ≤ call → (StopsWithin 2 (record { calls = 0; stop = Some call }) → ⊥) → nat_le call 2 ≡ false
is_past call some out = past_either call (nat_le call 2) refl some out

pub is_second : (call : ℕ) → 2 ≤ call → StopsWithin 2 (record { calls = 0; stop = Some call }) → call ≡ 2
is_second call some within = omega (arith, some, within.1)

-- what a prefix arms
pub counting_cut : (prefix : Option Prefix) (call : ℕ) (fill : Fill) (most : ℕ) (told : Option Counts) → prefix ≡ Some (Cut call fill) → 1 ≤ call → (calls : ℕ) → calls ≤ most
    → told ≡ Some (record { calls = calls; stop = stop_of calls call }) → Counting prefix most told
counting_cut prefix call fill most told is some calls few told_is =
    subst (λ (p : Option Prefix). Counting p most told) (sym is)
    (record { calls = calls; few = few; is = told_is ∙ ap (λ (s : Option ℕ). let x : Counts = record { calls = calls; stop = s } in Some x) (stop_is calls call some) })

pub counting_fail : (prefix : Option Prefix) (call : ℕ) (fill : Fill) (most : ℕ) (told : Option Counts) → prefix ≡ Some (Fail call fill) → 1 ≤ call → (calls : ℕ) → calls ≤ most
    → told ≡ Some (record { calls = calls; stop = stop_of calls call }) → Counting prefix most told
counting_fail prefix call fill most told is some calls few told_is =
    subst (λ (p : Option Prefix). Counting p most told) (sym is)
    (record { calls = calls; few = few; is = told_is ∙ ap (λ (s : Option ℕ). let x : Counts = record { calls = calls; stop = s } in Some x) (stop_is calls call some) })

pub from_one_cut : (prefix : Option Prefix) (call : ℕ) (fill : Fill) → prefix ≡ Some (Cut call fill) → 1 ≤ call → CountsFromOne prefix
from_one_cut prefix call fill is some = subst CountsFromOne (sym is) some

pub from_one_fail : (prefix : Option Prefix) (call : ℕ) (fill : Fill) → prefix ≡ Some (Fail call fill) → 1 ≤ call → CountsFromOne prefix
from_one_fail prefix call fill is some = subst CountsFromOne (sym is) some
