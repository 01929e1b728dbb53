use Rattle.std.proofs.Common.{◌≡◌, drop, map}
use Rattle.cap_schedule.specs.PublishedRows.{rows_of}
use Rattle.cap_schedule.proofs.Several.{onto}
use Rattle.cap_schedule.proofs.rows.rows_of.Given as goal

abbrev pub invariant-loop-text : goal.invariant-loop-text
invariant-loop-text l = onto l.rows.items (rows_of (map (λ t. t.now) (drop l.text-index l.texts))) ≡ rows_of (map (λ t. t.now) l.texts)
