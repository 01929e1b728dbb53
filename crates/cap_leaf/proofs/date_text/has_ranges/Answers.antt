use Rattle.cap_leaf.proofs.Moments.{digits_of}
use Rattle.cap_leaf.proofs.date_text.has_ranges.Goals as goal

pub number_at-month-requires-clause-digits : goal.number_at-month-requires-clause-digits
number_at-month-requires-clause-digits c = (digits_of c.args.text.now c.requires).month

pub number_at-day-requires-clause-digits : goal.number_at-day-requires-clause-digits
number_at-day-requires-clause-digits c = (digits_of c.args.text.now c.requires).day

pub number_at-hour-requires-clause-digits : goal.number_at-hour-requires-clause-digits
number_at-hour-requires-clause-digits c = (digits_of c.args.text.now c.requires).hour

pub number_at-minute-requires-clause-digits : goal.number_at-minute-requires-clause-digits
number_at-minute-requires-clause-digits c = (digits_of c.args.text.now c.requires).minute

pub number_at-second-requires-clause-digits : goal.number_at-second-requires-clause-digits
number_at-second-requires-clause-digits c = (digits_of c.args.text.now c.requires).second
