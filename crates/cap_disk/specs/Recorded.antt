-- What the record of a disk in memory says.
use Rattle.std.specs.Prelude.{ℕ, List, length, Option}
use Rattle.cap_disk.specs.Disk.{Contents, Room}
use Rattle.cap_disk.specs.History.{start, after, LeftSince}
use Rattle.cap_disk.specs.Survivor.{restart_of}
use Rattle.cap_disk.specs.declared.arming.Fill.{Fill}
use Rattle.cap_disk.specs.declared.recorded.Call.{Call}
use Rattle.cap_disk.specs.declared.recorded.Recorded.{Recorded}

-- all that was recorded, since which bytes
pub record History : Type 0 where
  pub first : List ℕ
  pub log : List Call
  pub bytes : List ℕ

abbrev pub history_in : Recorded → History
history_in r = record { first = r.first.items; log = r.log.items; bytes = r.bytes.items }

abbrev pub contents_in : Recorded → Contents
contents_in r = after (start r.first.items) r.log.items r.bytes.items

abbrev pub moment_in : Recorded → ℕ
moment_in r = length r.log.items

abbrev pub left_in : Recorded → ℕ → List ℕ → Type 0
left_in r = LeftSince (start r.first.items) r.log.items r.bytes.items

abbrev pub room_in : Recorded → Room
room_in r = record { bytes = r.room_bytes; calls = r.room_calls }

abbrev pub restarted : Option Fill → Recorded → List ℕ
restarted cut r = restart_of cut r.first.items r.log.items r.bytes.items
