-- What a disk in memory holds after a restart.
use Rattle.std.specs.Prelude.{ℕ, List, [], ◌∷◌, take, drop, replicate, Bool, true, false, ◌||◌, Option, Some, None}
use Rattle.cap_disk.specs.Disk.{Contents, overwrite}
use Rattle.cap_disk.specs.History.{start, step, taken, after}
use Rattle.cap_disk.specs.declared.arming.Fill.{Fill}
use Rattle.cap_disk.specs.declared.arming.Fill.TheVariants.{Old, New, Byte}
use Rattle.cap_disk.specs.declared.recorded.Call.{Call}
use Rattle.cap_disk.specs.declared.recorded.Call.TheVariants.{Write, Blank, Late, Sync}

-- a call after the cut does nothing any more
abbrev pub step_to_cut : Contents → Call → List ℕ → Contents
step_to_cut c (Late place len) bytes = c
step_to_cut c (Write place len) bytes = step c (Write place len) bytes
step_to_cut c (Blank place len) bytes = step c (Blank place len) bytes
step_to_cut c Sync bytes = step c Sync bytes

-- the contents when the power was cut
abbrev pub at_cut : Contents → List Call → List ℕ → Contents
at_cut c [] bytes = c
at_cut c (call ∷ log) bytes = at_cut (step_to_cut c call bytes) log (drop (taken call) bytes)

-- the bytes, each of these ranges filled with one byte; the newest range comes first
abbrev pub filled : ℕ → List (ℕ × ℕ) → List ℕ → List ℕ
filled byte [] bytes = bytes
filled byte (range ∷ ranges) bytes = overwrite (filled byte ranges bytes) range.0 (replicate range.1 byte)

-- what survives of these contents
abbrev pub survivor : Fill → Contents → List ℕ
survivor Old c = c.synced
survivor New c = c.shown
survivor (Byte byte) c = filled byte c.written c.synced

-- what a restart finds, after a cut or without one
abbrev pub restart_of : Option Fill → List ℕ → List Call → List ℕ → List ℕ
restart_of None first log bytes = (after (start first) log bytes).shown
restart_of (Some fill) first log bytes = survivor fill (at_cut (start first) log bytes)

-- the same, call by call: the writes laid one over the other
abbrev pub laid_one : List ℕ → Call → List ℕ → List ℕ
laid_one shown (Write place len) bytes = overwrite shown place (take len bytes)
laid_one shown (Blank place len) bytes = shown
laid_one shown (Late place len) bytes = shown
laid_one shown Sync bytes = shown

abbrev pub laid : List ℕ → List Call → List ℕ → List ℕ
laid shown [] bytes = shown
laid shown (call ∷ log) bytes = laid (laid_one shown call bytes) log (drop (taken call) bytes)

-- the ranges of writes before the cut, filled one after the other
abbrev pub fill_one : ℕ → List ℕ → Call → List ℕ
fill_one byte shown (Write place len) = overwrite shown place (replicate len byte)
fill_one byte shown (Blank place len) = overwrite shown place (replicate len byte)
fill_one byte shown (Late place len) = shown
fill_one byte shown Sync = shown

abbrev pub fill_calls : ℕ → List ℕ → List Call → List ℕ
fill_calls byte shown [] = shown
fill_calls byte shown (call ∷ log) = fill_calls byte (fill_one byte shown call) log

abbrev pub is_sync : Call → Bool
is_sync (Write place len) = false
is_sync (Blank place len) = false
is_sync (Late place len) = false
is_sync Sync = true

abbrev pub has_sync : List Call → Bool
has_sync [] = false
has_sync (call ∷ log) = is_sync call || has_sync log
