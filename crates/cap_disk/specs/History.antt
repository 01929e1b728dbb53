-- What a disk in memory recorded, and what follows from it.
use Rattle.std.specs.Prelude.{⊤, ◌≡◌, ◌⊎◌, ℕ, zero, suc, ◌+◌, ◌≤◌, ◌<◌, List, [], ◌∷◌, ◌++◌, length, take, drop}
use Rattle.std.proofs.Common.{inl, inr, ⊎_elim, refl, ◌∙◌, ap, arith, length-append, slice_index, min, ◌-◌, length-take, length-drop, get_or-take, get_or-drop}
use Rattle.std.proofs.lemmas.List.{get_or_append_left, get_or-append_right}
use Rattle.cap_disk.specs.Disk.{Contents, KeepsOutside, Leaves, MayLeave, overwrite, all_synced}
use Rattle.cap_disk.specs.declared.recorded.Call.{Call}
use Rattle.cap_disk.specs.declared.recorded.Call.TheVariants.{Write, Blank, Late, Sync}

-- what a new disk holds that was made of these bytes
abbrev pub start : List ℕ → Contents
start bytes = record { synced = bytes; written = []; shown = bytes }

-- the contents after one recorded call; the bytes of writes stand in a list of their own
abbrev pub step : Contents → Call → List ℕ → Contents
step c (Write place len) bytes = record { synced = c.synced; written = (place, len) ∷ c.written; shown = overwrite c.shown place (take len bytes) }
step c (Blank place len) bytes = record { synced = c.synced; written = (place, len) ∷ c.written; shown = c.shown }
step c (Late place len) bytes = record { synced = c.synced; written = (place, len) ∷ c.written; shown = c.shown }
step c Sync bytes = all_synced c

-- how many bytes a call wrote
abbrev pub taken : Call → ℕ
taken (Write place len) = len
taken (Blank place len) = 0
taken (Late place len) = 0
taken Sync = 0

-- how many bytes a call had to write
abbrev pub len_of : Call → ℕ
len_of (Write place len) = len
len_of (Blank place len) = len
len_of (Late place len) = len
len_of Sync = 0

abbrev pub lens : List Call → ℕ
lens [] = 0
lens (call ∷ log) = len_of call + lens log

-- a call that changes nothing that a read gives
abbrev pub IsNoWrite : Call → Type 0
IsNoWrite (Write place len) = ⊥
IsNoWrite (Blank place len) = ⊤
IsNoWrite (Late place len) = ⊤
IsNoWrite Sync = ⊤

-- the contents after all these calls
abbrev pub after : Contents → List Call → List ℕ → Contents
after c [] bytes = c
after c (call ∷ log) bytes = after (step c call bytes) log (drop (taken call) bytes)

-- how many bytes these writes have
abbrev pub all_taken : List Call → ℕ
all_taken [] = 0
all_taken (call ∷ log) = taken call + all_taken log

-- a crash after at least t of these calls may have left this
abbrev pub LeftSince : Contents → List Call → List ℕ → ℕ → List ℕ → Type 0
LeftSince c [] bytes t image = MayLeave c image
LeftSince c (call ∷ log) bytes zero image = MayLeave c image ⊎ LeftSince (step c call bytes) log (drop (taken call) bytes) zero image
LeftSince c (call ∷ log) bytes (suc t) image = LeftSince (step c call bytes) log (drop (taken call) bytes) t image

pub left_now : (c : Contents) (log : List Call) (bytes : List ℕ) (t : ℕ) (image : List ℕ) → t ≤ length log → MayLeave (after c log bytes) image → LeftSince c log bytes t image
left_now c [] bytes t image le left = left
left_now c (call ∷ log) bytes zero image le left = inr (left_now (step c call bytes) log (drop (taken call) bytes) zero image (omega arith) left)
left_now c (call ∷ log) bytes (suc t) image le left = left_now (step c call bytes) log (drop (taken call) bytes) t image (omega arith) left

pub left_last : (c : Contents) (log : List Call) (bytes image : List ℕ) → LeftSince c log bytes (length log) image → MayLeave (after c log bytes) image
left_last c [] bytes image left = left
left_last c (call ∷ log) bytes image left = left_last (step c call bytes) log (drop (taken call) bytes) image left

pub length_overwrite : (shown : List ℕ) (place : ℕ) (bytes : List ℕ) → length (overwrite shown place bytes) ≡ min place (length shown) + (length bytes + (length shown - (place + length bytes)))
length_overwrite shown place bytes = omega (arith, length-append (take place shown ++ bytes) (drop (place + length bytes) shown), length-append (take place shown) bytes, length-take place shown, length-drop (place + length bytes) shown)

pub overwrite_long : (shown : List ℕ) (place : ℕ) (bytes : List ℕ) → length shown ≤ length (overwrite shown place bytes)
overwrite_long shown place bytes = omega (arith, length_overwrite shown place bytes)

-- outside of the range a write changes nothing
pub outside_write : (shown : List ℕ) (place : ℕ) (bytes : List ℕ) (i : ℕ) → i < length shown → (i < place) ⊎ (place + length bytes ≤ i) → slice_index (overwrite shown place bytes) i ≡ slice_index shown i
outside_write shown place bytes i lt (inl before) =
    get_or_append_left (take place shown ++ bytes) (drop (place + length bytes) shown) 0 i (omega (arith, length-append (take place shown) bytes, length-take place shown))
    ∙ get_or_append_left (take place shown) bytes 0 i (omega (arith, length-take place shown))
    ∙ get_or-take place shown i 0 before
outside_write shown place bytes i lt (inr behind) =
    let size : length (take place shown ++ bytes) ≡ place + length bytes = omega (arith, length-append (take place shown) bytes, length-take place shown) in
    get_or-append_right (take place shown ++ bytes) (drop (place + length bytes) shown) (place + length bytes) i 0 size behind
    ∙ get_or-drop (place + length bytes) shown (i - (place + length bytes)) 0
    ∙ ap (λ (k : ℕ). slice_index shown k) (omega arith)

keeps_any : (written : List (ℕ × ℕ)) (synced shown : List ℕ) → Leaves written synced shown → KeepsOutside written synced shown
keeps_any [] synced shown is = record { no_shorter = omega (arith, ap length is); outside = λ i lt out. ap (λ (l : List ℕ). slice_index l i) is }
keeps_any (range ∷ written) synced shown keeps = keeps

shows_write : (c : Contents) (place len : ℕ) (bytes : List ℕ) → MayLeave c c.shown → KeepsOutside ((place, len) ∷ c.written) c.synced (overwrite c.shown place (take len bytes))
shows_write c place len bytes shows =
    let keeps = keeps_any c.written c.synced c.shown shows in
    let part = take len bytes in
    record {
      no_shorter = omega (arith, keeps.no_shorter, overwrite_long c.shown place part);
      outside = λ i lt out. outside_write c.shown place part i (omega (arith, lt, keeps.no_shorter)) (⊎_elim (λ before. inl before) (λ behind. inr (omega (arith, behind, length-take len bytes))) out.0) ∙ keeps.outside i lt out.1;
    }

shows_blank : (c : Contents) (place len : ℕ) → MayLeave c c.shown → KeepsOutside ((place, len) ∷ c.written) c.synced c.shown
shows_blank c place len shows =
    let keeps = keeps_any c.written c.synced c.shown shows in
    record { no_shorter = keeps.no_shorter; outside = λ i lt out. keeps.outside i lt out.1 }

pub shows_one_after : (c : Contents) (log : List Call) (bytes : List ℕ) → MayLeave c c.shown → MayLeave (after c log bytes) (after c log bytes).shown
shows_one_after c [] bytes shows = shows
shows_one_after c (Write place len ∷ log) bytes shows = shows_one_after (step c (Write place len) bytes) log (drop len bytes) (shows_write c place len bytes shows)
shows_one_after c (Blank place len ∷ log) bytes shows = shows_one_after (step c (Blank place len) bytes) log (drop 0 bytes) (shows_blank c place len shows)
shows_one_after c (Late place len ∷ log) bytes shows = shows_one_after (step c (Late place len) bytes) log (drop 0 bytes) (shows_blank c place len shows)
shows_one_after c (Sync ∷ log) bytes shows = shows_one_after (step c Sync bytes) log (drop 0 bytes) refl
