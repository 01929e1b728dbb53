use Rattle.std.proofs.Common.{sym, arith}
use Rattle.cap_schedule.proofs.OtherLines.{no_digits}
use Rattle.cap_schedule.proofs.prefixes.digits_fill.Goals as goal

pub returns-in_default : goal.returns-in_default
returns-in_default c =
    let few = c.in_default.len_below in
    sym (no_digits c.args.word.now (λ e. omega (arith, e, few)))
