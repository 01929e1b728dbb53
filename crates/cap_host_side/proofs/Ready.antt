-- A host whose disk was armed is ready for a line.
use Rattle.std.proofs.Common.{◌≡◌, ℕ, ◌+◌, ◌^◌, ◌≤◌, ◌<◌, Bool, true, false, List, Option, Some, refl, sym, ◌∙◌, subst, arith, IsTrue}
use Rattle.cap_disk.specs.Disk.{Counts}
use Rattle.cap_disk.specs.declared.memory.MemoryDisk.{MemoryDisk}
use Rattle.cap_journal.specs.declared.journal.Journal.{Ghosts}
use Rattle.cap_journal.specs.File.{Has}
use Rattle.cap_entries.specs.declared.host.HostEntry.{HostEntry}
use Rattle.cap_entries.specs.HostRecord.{host_reading}
use Rattle.cap_host.specs.declared.host.Host.{Host}
use Rattle.cap_host.specs.Host.{entries_of, has_failed, tells}
use Rattle.cap_schedule.specs.declared.schedule.Prefix.{Prefix}
use Rattle.cap_world.specs.World.{HostState}
use Rattle.cap_plays.specs.Plays.{Doubt, no_doubt}
use Rattle.cap_plays.specs.Corresponds.{Holds, EndCorresponds}
use Rattle.cap_plays.specs.Holding.{holds_settled, end_has}
use Rattle.cap_power.specs.Counting.{stop_behind, CountsFromOne}
use Rattle.cap_power.specs.Prefixes.{armed_of, armed_is}
use Rattle.cap_power.specs.Standing.{IsReady as IsReadyPower, fails}
use Rattle.cap_power.specs.declared.power.Power.{Power}
use Rattle.cap_power.specs.declared.power.Power.TheVariants.{On, Off, Lent}
use Rattle.cap_host_lines.specs.Acts.{counts_of, images_of, IsReady}

-- an end that is on has nothing in doubt
pub end_sure : {Entry : Type 0} (has : List ℕ → List Entry → Type 0) (images fewer : List ℕ → Type 0) (entries after settled tried : List Entry) (is_on : Bool) (doubt : Doubt)
    → EndCorresponds has images true entries settled tried is_on doubt → after ≡ entries → ((image : List ℕ) → fewer image → images image)
    → EndCorresponds has fewer true after settled tried is_on (no_doubt 0)
end_sure {Entry = Entry} has images fewer entries after settled tried is_on doubt stands same is = record {
  on_is = stands.on_is;
  entries_are = λ on. same ∙ stands.entries_are on;
  none_tried = stands.none_tried;
  holds = subst (λ (l : List Entry). Holds has fewer settled l (no_doubt 0)) (sym (stands.none_tried refl))
      (holds_settled has fewer settled (λ image left. end_has has images true entries settled tried is_on doubt stands (sym stands.on_is) image (is image left)));
}

-- the calls that an armed disk has answered, and the call that is armed on it
abbrev pub behind : Option Prefix → ℕ → Counts
behind prefix calls = record { calls = calls; stop = stop_behind prefix calls }

pub ready_to_act : {J : Type 0} {g : Ghosts J HostEntry} (host now : Host J g) (s : HostState) (prefix : Option Prefix) (most calls : ℕ) (doubt : Doubt) (images : List ℕ → Type 0)
    → IsTrue (tells now) → has_failed now ≡ false → counts_of now ≡ Some (behind prefix calls) → calls ≤ most → most + 4 < 2 ^ 64 → CountsFromOne prefix
    → EndCorresponds (Has host_reading) images true (entries_of host) s.settled s.tried s.on doubt → entries_of now ≡ entries_of host
    → ((image : List ℕ) → images_of now image → images image)
    → IsReady now s (armed_of prefix) (behind prefix calls)
ready_to_act host now s prefix most calls doubt images told works counts few room from_one stands same is = record {
  working = record { told = told; works = works; counts_are = counts; few = omega (arith, few, room) };
  is_armed = armed_is prefix calls from_one;
  stands = end_sure (Has host_reading) images (images_of now) (entries_of host) (entries_of now) s.settled s.tried s.on doubt stands same is;
}

-- over what contracts see of a host
module _ {H : Type 0} (disk : H → MemoryDisk) (has_failed : H → Bool) where
  pub ready_works : (most : ℕ) (power : Power H) → IsReadyPower has_failed disk most power → fails has_failed power ≡ false
  ready_works most (On host) ready = ready.0
  ready_works most (Off left) ready = refl
  ready_works most Lent ready = refl

  -- it may have answered more calls
  pub ready_more : (low high : ℕ) (power : Power H) → low ≤ high → IsReadyPower has_failed disk low power → IsReadyPower has_failed disk high power
  ready_more low high (On host) more ready = (ready.0, record { calls = ready.1.calls; few = omega (arith, ready.1.few, more); is = ready.1.is })
  ready_more low high (Off left) more ready = tt
  ready_more low high Lent more ready = tt
