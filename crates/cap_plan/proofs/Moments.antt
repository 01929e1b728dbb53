-- The moments of an action against those that a search looks at.
use Rattle.std.proofs.Common.{◌≡◌, inl, inr, ℕ, ◌+◌, ◌*◌, ◌≤◌, ◌<◌, sym, ap, ◌∙◌, arith, ℤ, pos, negsuc, neg_ℤ, ◌+ℤ◌, ◌≤ℤ◌, ◌<ℤ◌, w64, true, false, rules, to_z, of_z}
use Rattle.std.specs.Int.{saturate_signed}
use Rattle.std.specs.Prelude.{nat_lt}
use lib.Signed.{lt_z}
use Rattle.std.proofs.lemmas.Int.{ints, to_z-of_z}
use Rattle.std.proofs.lemmas.Bool.Decides.{nat_tests}
use Rattle.std.proofs.lemmas.Bool.{cases_lt}
use Rattle.std.proofs.Math.Nat.{mul-le-mul_left}
use Rattle.cap_mgmt_msgs.specs.declared.actions.Action.{Action}
use Rattle.cap_plan.specs.Due.{moment_of_parts, IsMoment, IsDue, IsNext, IsOver, IsNear}

-- the larger product has the larger factor
less_of : (p a k : ℕ) → p * a < p * k → a < k
less_of p a k h = elim (cases_lt a k) [
  | inl lt ↦ lt
  | inr ge ↦ absurd (let le : p * k ≤ p * a = mul-le-mul_left p ge in omega arith)
]

-- the action's start
module _ (action : Action) (start : ℤ) (e : start ≡ moment_of_parts action.start) where
  after_start : (moment : ℤ) (is : IsMoment action moment) → moment ≡ start +ℤ pos (60 * action.minutes * is.times)
  after_start moment is = is.is ∙ ap (λ z. z +ℤ pos (60 * action.minutes * is.times)) (sym e)

  at_start : IsMoment action start
  at_start =
      let none : 60 * action.minutes * 0 ≡ 0 = omega arith in
      let still : moment_of_parts action.start +ℤ pos 0 ≡ moment_of_parts action.start = omega (arith, ints) in
      record { times = 0; is = e ∙ sym (ap (λ n. moment_of_parts action.start +ℤ pos n) none ∙ still) }

  pub begins : (last now : ℤ) → start ≤ℤ now → last <ℤ start → IsDue action last now
  begins last now past later = (start, at_start, later, past)

  pub more_periods : (last now : ℤ) (a b : ℕ) → last <ℤ (start +ℤ pos (60 * action.minutes * (a + 1))) → (start +ℤ pos (60 * action.minutes * b)) ≤ℤ now → a < b → IsDue action last now
  more_periods last now a b rest whole lt =
      let more : 60 * action.minutes * (a + 1) ≤ 60 * action.minutes * b = mul-le-mul_left (60 * action.minutes) (omega arith) in
      let there : IsMoment action (start +ℤ pos (60 * action.minutes * b)) = record { times = b; is = ap (λ z. z +ℤ pos (60 * action.minutes * b)) e } in
      (start +ℤ pos (60 * action.minutes * b), there, omega (arith, ints), whole)

  pub periods_more : (last now : ℤ) (a b : ℕ) → (start +ℤ pos (60 * action.minutes * a)) ≤ℤ last → now <ℤ (start +ℤ pos (60 * action.minutes * (b + 1))) → IsDue action last now → a < b
  periods_more last now a b whole rest (moment, is, later, past) =
      let w = after_start moment is in
      let above : a < is.times = less_of (60 * action.minutes) a is.times (omega (arith, ints)) in
      let within : is.times < b + 1 = less_of (60 * action.minutes) is.times (b + 1) (omega (arith, ints)) in
      omega arith

  pub first_is_next : (now : ℤ) → now <ℤ start → IsNext action now start
  first_is_next now early = record {
    is = at_start;
    later = early;
    first = λ other is later. (let w = after_start other is in omega (arith, ints));
  }

  pub some_left : (now : ℤ) (moment : ℤ) → IsMoment action moment → now <ℤ moment → IsOver action now → ⊥
  some_left now moment is later over = let h = over moment is in omega (arith, ints)

  pub period_is_next : (now : ℤ) (b : ℕ) → (start +ℤ pos (60 * action.minutes * b)) ≤ℤ now → now <ℤ (start +ℤ pos (60 * action.minutes * (b + 1)))
      → IsNext action now (start +ℤ pos (60 * action.minutes * (b + 1)))
  period_is_next now b whole rest = record {
    is = record { times = b + 1; is = ap (λ z. z +ℤ pos (60 * action.minutes * (b + 1))) e };
    later = rest;
    first = λ other is later.
        (let w = after_start other is in
        let above : b < is.times = less_of (60 * action.minutes) b is.times (omega (arith, ints)) in
        let more : 60 * action.minutes * (b + 1) ≤ 60 * action.minutes * is.times = mul-le-mul_left (60 * action.minutes) (omega arith) in
        omega (arith, ints));
  }

-- a moment that an i64 tells is told
pub told_whole : (moment : ℤ) → moment ≤ℤ pos 70000000000000 → neg_ℤ (pos 70000000000000) ≤ℤ moment → saturate_signed w64 moment ≡ moment
told_whole (pos n) high low = grind (arith, ints)
told_whole (negsuc n) high low = grind (arith, ints)

-- within 10^12 minutes of a moment near 1970
pub period_is_told : (start now : ℤ) (minutes b : ℕ) → IsNear start → IsNear now → minutes ≤ 1000000000000 → (start +ℤ pos (60 * minutes * b)) ≤ℤ now
    → saturate_signed w64 (start +ℤ pos (60 * minutes * (b + 1))) ≡ start +ℤ pos (60 * minutes * (b + 1))
period_is_told start now minutes b from to few whole =
    told_whole (start +ℤ pos (60 * minutes * (b + 1))) (omega (arith, ints, to.high)) (omega (arith, ints, from.low))

-- an i64 holds what is told
pub held : (moment : ℤ) → to_z w64 (of_z w64 (saturate_signed w64 moment)) ≡ saturate_signed w64 moment
held (pos n) = to_z-of_z w64 (saturate_signed w64 (pos n)) (grind (arith, ints))
held (negsuc n) = to_z-of_z w64 (saturate_signed w64 (negsuc n)) (grind (arith, ints))

pub near_is_told : (moment : ℤ) → IsNear moment → saturate_signed w64 moment ≡ moment
near_is_told moment near = told_whole moment (omega (arith, ints, near.high)) (omega (arith, ints, near.low))

pub near_is_held : (moment : ℤ) → IsNear moment → to_z w64 (of_z w64 moment) ≡ moment
near_is_held moment near = ap (λ z. to_z w64 (of_z w64 z)) (sym (near_is_told moment near)) ∙ (held moment ∙ near_is_told moment near)

pub less_true : (a b : ℕ) → a < b → nat_lt a b ≡ true
less_true a b h = grind (arith, nat_tests)

pub true_less : (a b : ℕ) → nat_lt a b ≡ true → a < b
true_less a b h = search rules

-- what a test of two moments says
pub below_is : (a b : ℤ) → IsNear a → IsNear b → lt_z (to_z w64 (of_z w64 a)) (to_z w64 (of_z w64 b)) ≡ true → a <ℤ b
below_is a b from to e = let h = rw (near_is_held a from, near_is_held b to) at e in omega (arith, ints)

pub not_below_is : (a b : ℤ) → IsNear a → IsNear b → lt_z (to_z w64 (of_z w64 a)) (to_z w64 (of_z w64 b)) ≡ false → b ≤ℤ a
not_below_is a b from to e = let h = rw (near_is_held a from, near_is_held b to) at e in omega (arith, ints)
