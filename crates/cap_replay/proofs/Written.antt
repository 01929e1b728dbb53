-- From the play of a schedule to what was written of it.
use Rattle.std.proofs.Common.{◌≡◌, ℕ, List, Option, subst}
use Rattle.std.specs.Io.KnownBytes.{Appends}
use Rattle.cap_base.specs.Streams.{AppendsSome}
use Rattle.cap_msgs.specs.Received.{Received}
use Rattle.cap_disk.specs.declared.memory.MemoryDisk.{MemoryDisk}
use Rattle.cap_schedule.specs.declared.schedule.Schedule.{Schedule}
use Rattle.cap_schedule.specs.Language.{reading, Reads}
use Rattle.cap_schedule.specs.Reader.{IsReader}
use Rattle.cap_schedule.specs.Nobodys.{NoiseIsNobodys}
use Rattle.cap_replay.specs.Replays.{IsPlayedOver, Replays, ReplaysFront}

-- what is known of a schedule that was read, and of its play
abbrev AllRead : List ℕ → Schedule → Type 0
AllRead bytes s = (reads : List ℕ → Received) → IsReader reads → reading reads bytes ≡ Reads s

abbrev AllQuiet : Schedule → Type 0
AllQuiet s = (reads : List ℕ → Received) → IsReader reads → NoiseIsNobodys reads s

abbrev AllPlayed : Schedule → List ℕ → List MemoryDisk → Type 0
AllPlayed s text disks = (reads : List ℕ → Received) → IsReader reads → NoiseIsNobodys reads s → IsPlayedOver reads s text disks

abbrev Some_reader : Type 0
Some_reader = (reads : List ℕ → Received) × IsReader reads

pub replays : (old new : Option (List ℕ)) (bytes text : List ℕ) (s : Schedule) (disks : List MemoryDisk) → Some_reader → AllRead bytes s → AllQuiet s → AllPlayed s text disks → Appends old new text → Replays old new bytes disks
replays old new bytes text s disks some says quiet played puts = record {
  some = some;
  each = λ reads reader.
      let over = played reads reader (quiet reads reader) in
      record {
        schedule = s;
        played = over.played;
        says = says reads reader;
        run = over.run;
        puts = subst (λ (t : List ℕ). Appends old new t) over.reports puts;
        holds = over.holds;
      };
}

pub replays_front : (old new : Option (List ℕ)) (bytes text : List ℕ) (s : Schedule) (disks : List MemoryDisk) → Some_reader → AllRead bytes s → AllQuiet s → AllPlayed s text disks → AppendsSome old new text → ReplaysFront old new bytes
replays_front old new bytes text s disks some says quiet played puts = record {
  some = some;
  each = λ reads reader.
      let over = played reads reader (quiet reads reader) in
      record {
        schedule = s;
        played = over.played;
        says = says reads reader;
        run = over.run;
        puts = subst (λ (t : List ℕ). AppendsSome old new t) over.reports puts;
      };
}
