use Rattle.std.proofs.Common.{arith}
use Rattle.cap_base.specs.Item.{sale_count, cancel_count}
use Rattle.cap_plain.specs.Counted.{few_sales, few_cancels, sum_period}
use Rattle.cap_plain.proofs.period.totals_in.Goals as goal

pub sums-requires-clause-sales : goal.sums-requires-clause-sales
sums-requires-clause-sales c =
    rw c.in_period.ensures (omega (arith, sum_period sale_count c.args.p c.args.items.now, few_sales c.args.items.now c.requires))

pub sums-requires-clause-cancels : goal.sums-requires-clause-cancels
sums-requires-clause-cancels c =
    rw c.in_period.ensures (omega (arith, sum_period cancel_count c.args.p c.args.items.now, few_cancels c.args.items.now c.requires))
