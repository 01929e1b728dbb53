-- A line is its number, its prefix and its action.
use Rattle.std.specs.Prelude.{◌≡◌}
use Rattle.std.proofs.Common.{sym, subst}
use Rattle.cap_schedule.specs.declared.schedule.Action.{Action}
use Rattle.cap_schedule.specs.declared.schedule.End.{End}
use Rattle.cap_schedule.specs.declared.schedule.Line.{Line}

pub by_action : (P : Line → Type 0) (line : Line) (action : Action) → line.action ≡ action → P (record { number = line.number; prefix = line.prefix; action = action }) → P line
by_action P line action is p = subst (λ (a : Action). P (record { number = line.number; prefix = line.prefix; action = a })) (sym is) p

pub by_end : (P : End → Type 0) (end other : End) → end ≡ other → P other → P end
by_end P end other is p = subst P (sym is) p
