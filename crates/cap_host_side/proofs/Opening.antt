-- A host that was opened again stands to the fate of its opening.
use Rattle.std.proofs.Common.{ℕ, ◌≤◌, Bool, List, Option, sym, subst}
use Rattle.cap_disk.specs.declared.memory.MemoryDisk.{MemoryDisk}
use Rattle.cap_journal.specs.File.{Has}
use Rattle.cap_entries.specs.declared.host.HostEntry.{HostEntry}
use Rattle.cap_entries.specs.HostRecord.{host_reading}
use Rattle.cap_schedule.specs.declared.schedule.Prefix.{Prefix}
use Rattle.cap_world.specs.World.{HostState}
use Rattle.cap_plays.specs.Plays.{Doubt, MayKeep}
use Rattle.cap_power.specs.Fates.{Fate, opening, MeetsFate, host_opening_is}
use Rattle.cap_power.specs.Standing.{IsReady}
use Rattle.cap_power.specs.declared.power.Settled.{Settled}
use Rattle.cap_host_side.specs.Sides.{Reopens}
use Rattle.cap_host_side.proofs.Ready.{ready_more}

module _ {H : Type 0} (entries : H → List HostEntry) (disk : H → MemoryDisk) (failed : H → Bool) where
  pub reopened : (most : ℕ) (s : HostState) (doubt : Doubt) (prefix : Option Prefix) (after : Settled H) (kept : ℕ) → 2 ≤ most → MayKeep doubt kept
      → MeetsFate (Has host_reading) entries disk after (opening prefix doubt kept s.settled s.tried) → IsReady failed disk 2 after.power
      → Reopens entries disk failed most after.power s doubt prefix after.outcome
  reopened most s doubt prefix after kept two keeps meets ready =
      let met = subst (λ (f : Fate HostEntry). MeetsFate (Has host_reading) entries disk after f) (sym (host_opening_is prefix doubt kept s)) meets in
      (kept, keeps, record { stands = met.0; ready = ready_more disk failed 2 most after.power two ready }, met.1)
