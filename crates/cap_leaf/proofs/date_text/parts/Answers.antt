use Rattle.cap_leaf.proofs.Moments.{moment_of, all_parts}
use Rattle.cap_leaf.proofs.date_text.parts.Goals as goal

pub number_at-requires-clause-digits : goal.number_at-requires-clause-digits
number_at-requires-clause-digits c = (moment_of c.args.text.now c.requires.moment).digits.year

pub number_at-requires-2-clause-digits : goal.number_at-requires-2-clause-digits
number_at-requires-2-clause-digits c = (moment_of c.args.text.now c.requires.moment).digits.month

pub number_at-requires-3-clause-digits : goal.number_at-requires-3-clause-digits
number_at-requires-3-clause-digits c = (moment_of c.args.text.now c.requires.moment).digits.day

pub number_at-requires-4-clause-digits : goal.number_at-requires-4-clause-digits
number_at-requires-4-clause-digits c = (moment_of c.args.text.now c.requires.moment).digits.hour

pub number_at-requires-5-clause-digits : goal.number_at-requires-5-clause-digits
number_at-requires-5-clause-digits c = (moment_of c.args.text.now c.requires.moment).digits.minute

pub number_at-requires-6-clause-digits : goal.number_at-requires-6-clause-digits
number_at-requires-6-clause-digits c = (moment_of c.args.text.now c.requires.moment).digits.second

pub invariant_of-result : goal.invariant_of-result
invariant_of-result c =
    let ranges = (moment_of c.args.text.now c.requires.moment).ranges in
    all_parts c.number_at.result c.number_at-2.result c.number_at-3.result c.number_at-4.result c.number_at-5.result c.number_at-6.result c.millis.result c.zone.result
    c.number_at.ensures.small
    (rw (c.number_at.ensures.value, c.number_at-2.ensures.value, c.number_at-3.ensures.value) ranges.day)
    (rw c.number_at-4.ensures.value ranges.hour)
    (rw c.number_at-5.ensures.value ranges.minute)
    (rw c.number_at-6.ensures.value ranges.second)
    c.millis.ensures.small c.zone.ensures.small
