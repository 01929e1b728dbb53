use Rattle.std.proofs.Common.{◌<◌, ◌^◌, arith}
use Rattle.std.proofs.lemmas.List.{length-take-le}
use Rattle.std.specs.Char.{is_ascii_digit}
use Rattle.cap_base.proofs.Digits.{all_front, few_front, below_most, hundredths_fit, hundredths_room}
use Rattle.cap_base.proofs.amount.read_decimal.Goals as goal

pub value_of_digits-requires-clause-digits : goal.value_of_digits-requires-clause-digits
value_of_digits-requires-clause-digits c = all_front is_ascii_digit c.args.text.now c.whole_len-len.result c.whole_len-len.ensures

pub overflow_mul-result : goal.overflow_mul-result
overflow_mul-result c =
    let front = few_front is_ascii_digit c.args.text.now in
    let n = length-take-le c.whole_len-len.result c.args.text.now (omega (arith, front)) in
    let w : c.value_of_digits.result < 10 ^ c.args.most = below_most _ _ c.args.most c.value_of_digits.ensures.small (omega (arith, n)) in
    omega (arith, hundredths_room c.value_of_digits.result 0 c.args.most w (omega arith) c.requires)

pub overflow_add-result : goal.overflow_add-result
overflow_add-result c =
    let front = few_front is_ascii_digit c.args.text.now in
    let n = length-take-le c.whole_len-len.result c.args.text.now (omega (arith, front)) in
    let w : c.value_of_digits.result < 10 ^ c.args.most = below_most _ _ c.args.most c.value_of_digits.ensures.small (omega (arith, n)) in
    omega (arith, hundredths_room c.value_of_digits.result c.cents.result c.args.most w c.cents.ensures.small c.requires)

pub returns-then-tail-clause-small : goal.returns-then-tail-clause-small
returns-then-tail-clause-small c =
    let front = few_front is_ascii_digit c.args.text.now in
    let n = length-take-le c.whole_len-len.result c.args.text.now (omega (arith, front)) in
    let w : c.value_of_digits.result < 10 ^ c.args.most = below_most _ _ c.args.most c.value_of_digits.ensures.small (omega (arith, n)) in
    hundredths_fit c.value_of_digits.result c.cents.result c.args.most w c.cents.ensures.small
