-- What the reader of a schedule promises is what its run needs.
use Rattle.std.specs.Prelude.{ℕ, List}
use Rattle.cap_msgs.specs.Received.{Received}
use Rattle.cap_msgs.specs.Reads.{Reads}
use Rattle.cap_schedule.specs.declared.schedule.Schedule.{Schedule}
use Rattle.cap_schedule.specs.Matching.{Matching}
use Rattle.cap_schedule.specs.Ranges as Ranges
use Rattle.cap_schedule.specs.Reader.{IsReader}
use Rattle.cap_plays.specs.Laws.{InRange}

-- something says what bytes read as
pub some_reader : ((bytes : List ℕ) → (r : Received) × Reads bytes r) → (reads : List ℕ → Received) × IsReader reads
some_reader found = ((λ bytes. (found bytes).0), (λ bytes. (found bytes).1))

pub in_range : (s : Schedule) → Matching s → Ranges.InRange s → InRange s
in_range s matched lines = record { set_ups = matched; lines = lines }
