-- What calls of a disk in memory leave.
use Rattle.std.proofs.Common.{◌≡◌, ◌⊎◌, inl, inr, ℕ, Bool, true, false, List, Option, Some, None, refl, sym, ◌∙◌, subst, arith}
use Rattle.std.specs.Prelude.{Result, Ok, Err, IfOk, IfErr, OnOk, IsErrOf, MatchResult}
use Rattle.std.proofs.lemmas.Option.{none-some}
use Rattle.cap_disk.specs.Disk.{Contents, Counts, MayLeave, StaysCounted}
use Rattle.cap_disk.specs.History.{start, shows_one_after}
use Rattle.cap_disk.specs.MemoryDisk.{contents_of, history_of, told_of, restart_image}
use Rattle.cap_disk.specs.declared.memory.MemoryDisk.{MemoryDisk}
use Rattle.cap_power.specs.Images.{images_of, NoOthers, IsRestarted, IsLeftBy, no_others_by_history, no_others_restarted}
use Rattle.cap_journal.specs.Opening.{IsOpening, CountsOpening, StopsAtLength}

pub if_ok_map : {T E : Type 0} (result : Result T E) (P Q : T → Type 0) → ((value : T) → P value → Q value) → IfOk result P → IfOk result Q
if_ok_map (Ok value) P Q step is = step value is
if_ok_map (Err error) P Q step is = tt

stays_known : (old new : Option Counts) (x : Counts) → old ≡ Some x → StaysCounted old new → new ≡ Some x
stays_known None new x is stays = absurd (none-some x is)
stays_known (Some y) new x is stays = stays ∙ is

pub stays_told : (x : Counts) (old new : Option Counts) → old ≡ Some x → StaysCounted old new → new ≡ Some x
stays_told x old new is stays = stays_known old new x is stays

-- a call was armed, and then the end was opened
pub no_others_armed : (old armed new : MemoryDisk) → history_of armed ≡ history_of old → NoOthers armed new → NoOthers old new
no_others_armed old armed new same none image left = no_others_by_history old armed same image (none image left)

pub shows_same : (old armed : MemoryDisk) → history_of armed ≡ history_of old → (image : List ℕ) → images_of old image → images_of armed image
shows_same old armed same image left = no_others_by_history armed old (sym same) image left

pub is_restarted : (old new : MemoryDisk) → contents_of new ≡ start (restart_image old) → MayLeave (contents_of old) (restart_image old) → told_of new ≡ Some (record { calls = 0; stop = None }) → IsRestarted old new
is_restarted old new same left counts = record {
  that = restart_image old;
  is_old = left;
  one = λ image here. subst (λ (c : Contents). MayLeave c image) same here;
  counts = counts;
}

pub left_by_cut : (cut : Bool) (old new : MemoryDisk) → cut ≡ true → IsRestarted old new → IsLeftBy cut old new
left_by_cut true old new is restarted = restarted
left_by_cut false old new is restarted = cc

pub left_by_fault : (cut : Bool) (old new : MemoryDisk) → cut ≡ false → new ≡ old → IsLeftBy cut old new
left_by_fault true old new is same = cc
left_by_fault false old new is same = same

pub shows_one : (disk : MemoryDisk) → images_of disk (contents_of disk).shown
shows_one disk = shows_one_after (start disk.recorded.first.items) disk.recorded.log.items disk.recorded.bytes.items refl

-- what a restarted disk shows, also once a call is armed
pub shown_among : (old fresh : MemoryDisk) → IsRestarted old fresh → images_of old (contents_of fresh).shown
shown_among old fresh restarted = no_others_restarted old fresh restarted (contents_of fresh).shown (shows_one fresh)

pub shown_armed : (old fresh armed : MemoryDisk) → IsRestarted old fresh → history_of armed ≡ history_of fresh → images_of old (contents_of armed).shown
shown_armed old fresh armed restarted same = no_others_restarted old fresh restarted (contents_of armed).shown (no_others_by_history fresh armed same (contents_of armed).shown (shows_one armed))

-- the calls of an opening of a restarted disk
pub opening_told : (stop : Option ℕ) (old new : Option Counts) (ok disk memory : Type 0) → old ≡ Some (record { calls = 0; stop = stop }) → IsOpening old new ok disk memory → CountsOpening (record { calls = 0; stop = stop }) new ok disk memory
opening_told stop old new ok disk memory is opening = subst (λ (o : Option Counts). IsOpening o new ok disk memory) is opening (omega arith)

pub stops_at_length : (old : Option Counts) → old ≡ Some (record { calls = 0; stop = Some 2 }) → StopsAtLength old
stops_at_length old is = subst StopsAtLength (sym is) (omega arith, refl)

pub fewer_armed : (old fresh armed back : MemoryDisk) → IsRestarted old fresh → history_of armed ≡ history_of fresh → NoOthers armed back → NoOthers old back
fewer_armed old fresh armed back restarted same none image left = no_others_restarted old fresh restarted image (no_others_by_history fresh armed same image (none image left))

pub no_others_of : (a b new : MemoryDisk) → a ≡ b → NoOthers a new → NoOthers b new
no_others_of a b new same none = subst (λ (d : MemoryDisk). NoOthers d new) same none

-- the arms of a result
pub if_ok_at : {T E : Type 0} (result : Result T E) (value : T) (P : T → Type 0) → result ≡ Ok value → IfOk result P → P value
if_ok_at {T = T} {E = E} result value P same is = subst (λ (r : Result T E). IfOk r P) same is

pub if_err_at : {T E : Type 0} (result : Result T E) (error : E) (P : E → Type 0) → result ≡ Err error → IfErr result P → P error
if_err_at {T = T} {E = E} result error P same is = subst (λ (r : Result T E). IfErr r P) same is

pub match_ok_at : {T E : Type 0} (result : Result T E) (value : T) (P : T → Type 0) (Q : E → Type 0) → result ≡ Ok value → MatchResult result P Q → P value
match_ok_at {T = T} {E = E} result value P Q same is = subst (λ (r : Result T E). MatchResult r P Q) same is

pub match_err_at : {T E : Type 0} (result : Result T E) (error : E) (P : T → Type 0) (Q : E → Type 0) → result ≡ Err error → MatchResult result P Q → Q error
match_err_at {T = T} {E = E} result error P Q same is = subst (λ (r : Result T E). MatchResult r P Q) same is

pub if_ok_any : {T E : Type 0} (result : Result T E) (P : Type 0) → P → IfOk result (λ value. P)
if_ok_any (Ok value) P p = p
if_ok_any (Err error) P p = tt

pub none_of : (⊥ ⊎ ⊥) → ⊥
none_of (inl e) = e
none_of (inr e) = e

pub on_ok_of : {T E : Type 0} (result : Result T E) (P : Type 0) → P → OnOk result P
on_ok_of (Ok value) P p = p
on_ok_of (Err error) P p = tt

pub on_ok_at : {T E : Type 0} (result : Result T E) (value : T) (P : Type 0) → result ≡ Ok value → OnOk result P → P
on_ok_at {T = T} {E = E} result value P same is = subst (λ (r : Result T E). OnOk r P) same is

pub on_ok_err : {T E : Type 0} (result : Result T E) (error : E) (P : Type 0) → result ≡ Err error → OnOk result P
on_ok_err {T = T} {E = E} result error P same = subst (λ (r : Result T E). OnOk r P) (sym same) tt

pub if_ok_err : {T E : Type 0} (result : Result T E) (error : E) (P : T → Type 0) → result ≡ Err error → IfOk result P
if_ok_err {T = T} {E = E} result error P same = subst (λ (r : Result T E). IfOk r P) (sym same) tt

pub if_ok_from : {T E : Type 0} (result : Result T E) (value : T) (P : T → Type 0) → result ≡ Ok value → P value → IfOk result P
if_ok_from {T = T} {E = E} result value P same is = subst (λ (r : Result T E). IfOk r P) (sym same) is

pub ok_not_err : {T E A : Type 0} (result : Result T E) (value : T) (error : E) → result ≡ Ok value → IsErrOf result error → A
ok_not_err result value error same is = cc
