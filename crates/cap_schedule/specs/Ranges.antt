-- The ranges of what the lines of a schedule ask for.
use Rattle.std.specs.Prelude.{⊤, ◌≡◌, ◌⊎◌, ◌≤◌}
use Rattle.std.specs.List.{AllByRecursion}
use Rattle.cap_base.specs.declared.codes.DataSet.TheVariants.{Aqpr, Mgtp}
use Rattle.cap_schedule.specs.declared.schedule.Order.{Order}
use Rattle.cap_schedule.specs.declared.schedule.Order.TheVariants as T
use Rattle.cap_schedule.specs.declared.schedule.Action.{Action}
use Rattle.cap_schedule.specs.declared.schedule.Action.TheVariants.{AtTerminal, AtHost, Reopen}
use Rattle.cap_schedule.specs.declared.schedule.Line.{Line}
use Rattle.cap_schedule.specs.declared.schedule.Schedule.{Schedule}

-- a batch of at most so many items: 1 to 100; a report asks for the parameters or the plan
abbrev pub OrderInRange : Order → Type 0
OrderInRange (T.Batch most) = (1 ≤ most) × (most ≤ 100)
OrderInRange (T.Status wanted) = (wanted ≡ Aqpr) ⊎ (wanted ≡ Mgtp)
OrderInRange _ = ⊤

abbrev pub ActionInRange : Action → Type 0
ActionInRange (AtTerminal place order) = OrderInRange order
ActionInRange (AtHost order) = ⊤
ActionInRange (Reopen end) = ⊤

abbrev pub LineInRange : Line → Type 0
LineInRange line = ActionInRange line.action

abbrev pub InRange : Schedule → Type 0
InRange s = AllByRecursion LineInRange s.lines
