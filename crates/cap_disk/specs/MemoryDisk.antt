-- What a disk in memory shows to contracts.
use Rattle.std.specs.Prelude.{ℕ, List, Option}
use Rattle.cap_disk.specs.Disk.{Contents, Room, Counts}
use Rattle.cap_disk.specs.Switch as Switch
use Rattle.cap_disk.specs.Switch.{told, numbers_on}
use Rattle.cap_disk.specs.Recorded.{History, history_in, contents_in, moment_in, left_in, room_in, restarted}
use Rattle.cap_disk.specs.declared.arming.Fill.{Fill}
use Rattle.cap_disk.specs.declared.arming.Counted.{Counted}
use Rattle.cap_disk.specs.declared.arming.Plan.{Plan}
use Rattle.cap_disk.specs.declared.recorded.Call.{Call}
use Rattle.cap_disk.specs.declared.memory.MemoryDisk.{MemoryDisk}

-- all calls that it recorded; what it holds and what a crash may have left follows from that alone
abbrev pub history_of : MemoryDisk → History
history_of disk = history_in disk.recorded

abbrev pub contents_of : MemoryDisk → Contents
contents_of disk = contents_in disk.recorded

abbrev pub moment_of : MemoryDisk → ℕ
moment_of disk = moment_in disk.recorded

abbrev pub left_of : MemoryDisk → ℕ → List ℕ → Type 0
left_of disk = left_in disk.recorded

abbrev pub room_of : MemoryDisk → Room
room_of disk = room_in disk.recorded

abbrev pub faults_of : MemoryDisk → ℕ
faults_of disk = disk.switch.faults

-- its two numbers, where it tells them
abbrev pub told_of : MemoryDisk → Option Counts
told_of disk = told disk.switch

-- what the cut leaves in ranges that were not synced, once the power was cut
abbrev pub cut_of : MemoryDisk → Option Fill
cut_of disk = disk.switch.cut

-- what is armed
abbrev pub plan_of : MemoryDisk → Plan
plan_of disk = disk.switch.plan

-- nothing is armed on it, and its power was not cut
abbrev pub IsIdle : MemoryDisk → Type 0
IsIdle disk = Switch.IsIdle disk.switch

-- the two numbers once this call is armed
abbrev pub armed : MemoryDisk → Counted → ℕ → Option Counts
armed disk counted call = numbers_on disk.switch.cut counted disk.switch.calls call

-- what a restart makes of it
abbrev pub restart_image : MemoryDisk → List ℕ
restart_image disk = restarted disk.switch.cut disk.recorded

abbrev pub record_of : MemoryDisk → List Call
record_of disk = disk.recorded.log.items

abbrev pub reads_of : MemoryDisk → ℕ
reads_of disk = disk.switch.reads
