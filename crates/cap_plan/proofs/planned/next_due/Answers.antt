use Rattle.std.proofs.Common.{◌≡◌, ℤ, pos, ◌+ℤ◌, ◌≤ℤ◌, ◌<ℤ◌, ◌+◌, ◌*◌, ap, sym, ◌∙◌, subst, w64, to_z, of_z}
use Rattle.std.specs.Int.{saturate_signed}
use Rattle.std.proofs.lemmas.Bool.{false≢true}
use Rattle.cap_plan.specs.Due.{IsNext}
use Rattle.cap_plan.proofs.Moments.{first_is_next, period_is_next, period_is_told, some_left, held, near_is_told, near_is_held, below_is}
use Rattle.cap_plan.proofs.planned.next_due.Goals as goal

-- where the start is above now
first_of : (c : goal.Then-now-start) → IsNext c.args.action.now c.args.now c.moment_of-start.result
first_of c = first_is_next c.args.action.now c.moment_of-start.result c.moment_of-start.ensures.value c.args.now
    (below_is c.args.now c.moment_of-start.result c.requires.now c.moment_of-start.ensures.range c.if-now-start.true)

pub returns-then-now-start-clause-none : goal.returns-then-now-start-clause-none
returns-then-now-start-clause-none c = (
  λ e. absurd (false≢true (sym e)),
  λ over. absurd (some_left c.args.action.now c.moment_of-start.result c.moment_of-start.ensures.value c.args.now c.moment_of-start.result (first_of c).is (first_of c).later over),
)

pub returns-then-now-start-clause-next : goal.returns-then-now-start-clause-next
returns-then-now-start-clause-next c = (
  c.moment_of-start.result,
  first_of c,
  near_is_held c.moment_of-start.result c.moment_of-start.ensures.range ∙ sym (near_is_told c.moment_of-start.result c.moment_of-start.ensures.range),
)

pub returns-then-now-start-clause-exact : goal.returns-then-now-start-clause-exact
returns-then-now-start-clause-exact c = λ _.
    subst (IsNext c.args.action.now c.args.now) (sym (near_is_held c.moment_of-start.result c.moment_of-start.ensures.range)) (first_of c)

-- the next moment
next_of : (c : goal.After-moment_after) → ℤ
next_of c = c.moment_of-start.result +ℤ pos (60 * c.args.action.now.minutes * (c.periods-times.result + 1))

whole_of : (c : goal.After-moment_after) → (c.moment_of-start.result +ℤ pos (60 * c.args.action.now.minutes * c.periods-times.result)) ≤ℤ c.args.now
whole_of c =
    rw (near_is_held c.moment_of-start.result c.moment_of-start.ensures.range, near_is_held c.args.now c.requires.now) at c.periods-times.ensures.whole

is_next : (c : goal.After-moment_after) → IsNext c.args.action.now c.args.now (next_of c)
unfolding next_of
is_next c =
    let rest : c.args.now <ℤ (c.moment_of-start.result +ℤ pos (60 * c.args.action.now.minutes * (c.periods-times.result + 1)))
    = rw (near_is_held c.moment_of-start.result c.moment_of-start.ensures.range, near_is_held c.args.now c.requires.now) at c.periods-times.ensures.rest in
    period_is_next c.args.action.now c.moment_of-start.result c.moment_of-start.ensures.value c.args.now c.periods-times.result (whole_of c) rest

is_told : (c : goal.After-moment_after) → to_z w64 (of_z w64 c.moment_after.result) ≡ saturate_signed w64 (next_of c)
unfolding next_of
is_told c =
    let told : c.moment_after.result ≡ saturate_signed w64 (c.moment_of-start.result +ℤ pos (60 * c.args.action.now.minutes * (c.periods-times.result + 1)))
    = rw (near_is_held c.moment_of-start.result c.moment_of-start.ensures.range) at c.moment_after.ensures in
    ap (λ z. to_z w64 (of_z w64 z)) told ∙ held (next_of c)

pub returns-clause-none : goal.returns-clause-none
returns-clause-none c = (
  λ e. absurd (false≢true (sym e)),
  λ over. absurd (some_left c.args.action.now c.moment_of-start.result c.moment_of-start.ensures.value c.args.now (next_of c) (is_next c).is (is_next c).later over),
)

pub returns-clause-next : goal.returns-clause-next
returns-clause-next c = (next_of c, is_next c, is_told c)

pub returns-clause-exact : goal.returns-clause-exact
unfolding next_of
returns-clause-exact c = λ few.
    subst (IsNext c.args.action.now c.args.now)
    (sym (is_told c ∙ period_is_told c.moment_of-start.result c.args.now c.args.action.now.minutes c.periods-times.result c.moment_of-start.ensures.range c.requires.now few (whole_of c)))
    (is_next c)
