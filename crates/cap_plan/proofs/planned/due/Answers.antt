use Rattle.std.proofs.Common.{◌≤ℤ◌, ◌<ℤ◌, ◌+ℤ◌, ◌+◌, ◌*◌, pos, refl}
use Rattle.cap_plan.proofs.Moments.{begins, more_periods, periods_more, less_true, true_less, near_is_held, below_is, not_below_is}
use Rattle.cap_plan.proofs.planned.due.Goals as goal

pub returns-then-last-start : goal.returns-then-last-start
returns-then-last-start c =
    let start = c.moment_of-start in
    let past : start.result ≤ℤ c.args.now = not_below_is c.args.now start.result c.requires.now start.ensures.range c.if-now-start.false in
    let later : c.args.last <ℤ start.result = below_is c.args.last start.result c.requires.last start.ensures.range c.if-last-start.true in
    (λ _. begins c.args.action.now start.result start.ensures.value c.args.last c.args.now past later, λ _. refl)

pub returns : goal.returns
returns c =
    let start = c.moment_of-start in
    let action = c.args.action.now in
    let from = near_is_held start.result start.ensures.range in
    let last = near_is_held c.args.last c.requires.last in
    let now = near_is_held c.args.now c.requires.now in
    let whole : (start.result +ℤ pos (60 * action.minutes * c.periods.result)) ≤ℤ c.args.last = rw (from, last) at c.periods.ensures.whole in
    let rest : c.args.last <ℤ (start.result +ℤ pos (60 * action.minutes * (c.periods.result + 1))) = rw (from, last) at c.periods.ensures.rest in
    let whole-2 : (start.result +ℤ pos (60 * action.minutes * c.periods-2.result)) ≤ℤ c.args.now = rw (from, now) at c.periods-2.ensures.whole in
    let rest-2 : c.args.now <ℤ (start.result +ℤ pos (60 * action.minutes * (c.periods-2.result + 1))) = rw (from, now) at c.periods-2.ensures.rest in (
      λ test. more_periods action start.result start.ensures.value c.args.last c.args.now c.periods.result c.periods-2.result rest whole-2 (true_less c.periods.result c.periods-2.result test),
      λ is. less_true c.periods.result c.periods-2.result
          (periods_more action start.result start.ensures.value c.args.last c.args.now c.periods.result c.periods-2.result whole rest-2 is),
    )
