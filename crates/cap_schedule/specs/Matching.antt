-- The set-ups of a schedule name each other and keep their rules.
use Rattle.cap_schedule.specs.declared.schedule.Schedule.{Schedule}
use Rattle.cap_entries.specs.SetUps.{SetUpsMatch}

abbrev pub Matching : Schedule → Type 0
Matching s = SetUpsMatch s.host s.terminals
