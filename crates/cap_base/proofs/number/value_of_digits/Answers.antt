use Rattle.std.proofs.Common.{arith, get_or}
use Rattle.cap_base.proofs.Digits.{digit_step, digit_room, is_digit_range, digit_at}
use Rattle.cap_base.proofs.number.value_of_digits.Goals as goal

pub overflow_mul-n : goal.overflow_mul-n
overflow_mul-n c = omega (arith, digit_room c.loop-digit.n c.loop-digit.digit-index c.loop-digit.invariant.small (omega arith))

pub overflow_add-n : goal.overflow_add-n
overflow_add-n c =
    let range = is_digit_range (get_or c.args.digits.now c.loop-digit.digit-index 0) (digit_at c.args.digits.now c.loop-digit.digit-index c.requires.digits (omega arith)) in
    rw c.from.ensures (omega (arith, digit_room c.loop-digit.n c.loop-digit.digit-index c.loop-digit.invariant.small (omega arith), range.1))

pub loop-digit-preserved : goal.loop-digit-preserved
loop-digit-preserved c =
    let step = digit_step c.args.digits.now c.loop-digit.digit-index c.loop-digit.n c.requires.digits (omega arith) c.loop-digit.invariant.value c.loop-digit.invariant.small in
    rw c.from.ensures (record { value = step.0; small = step.1 })
