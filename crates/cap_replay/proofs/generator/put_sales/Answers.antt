use Rattle.std.proofs.Common.{◌≤◌, ◌<◌, ◌%◌, ℕ, refl, arith}
use Rattle.cap_replay.specs.declared.generator.Tally.{Tally}
use Rattle.cap_replay.proofs.Adding.{room, tallies_more, sales_more}
use Rattle.cap_replay.proofs.generator.put_sales.Goals as goal

abbrev nothing : Tally
nothing = record { sales = 0; answers = 0 }

turn : (n : ℕ) → n % 4 < 4
turn n = omega arith

few : (n sales : ℕ) → n < sales → sales ≤ 10000 → n ≤ 10000
few n sales less most = omega arith

pub put_sale-requires-clause-sales : goal.put_sale-requires-clause-sales
put_sale-requires-clause-sales c =
    (room c.loop-n.n (c.loop-n.n % 4) nothing c.loop-n.tallies (few c.loop-n.n c.args.sales c.loop-n-test.true c.requires) (turn c.loop-n.n) c.loop-n.invariant.tallies).0

pub put_sale-requires-clause-answers : goal.put_sale-requires-clause-answers
put_sale-requires-clause-answers c =
    (room c.loop-n.n (c.loop-n.n % 4) nothing c.loop-n.tallies (few c.loop-n.n c.args.sales c.loop-n-test.true c.requires) (turn c.loop-n.n) c.loop-n.invariant.tallies).1

pub loop-n-preserved : goal.loop-n-preserved
loop-n-preserved c = record {
  tallies = tallies_more c.loop-n.n (c.loop-n.n % 4) nothing c.loop-n.tallies c.in_ok-tallies.field-0 refl (turn c.loop-n.n) c.loop-n.invariant.tallies c.in_ok-tallies.ensures.tally;
  lines = sales_more c.loop-n.n (c.loop-n.n % 4) nothing c.args.lines.now c.loop-n.lines c.put_sale.new.lines c.loop-n.tallies refl (turn c.loop-n.n) c.loop-n.invariant.tallies c.loop-n.invariant.lines c.in_ok-tallies.ensures.lines;
}
