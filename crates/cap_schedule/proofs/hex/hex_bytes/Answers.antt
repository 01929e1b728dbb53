use Rattle.std.proofs.Common.{sym, ◌∙◌, arith}
use Rattle.cap_schedule.proofs.Digits.{next_byte}
use Rattle.cap_schedule.proofs.hex.hex_bytes.Goals as goal

pub pairs-preserved : goal.pairs-preserved
pairs-preserved c =
    next_byte c.pairs.bytes.items c.push.new.self.items c.args.text.now c.pairs.rest.now c.split_at.result.1.now c.in-Some.byte
    c.pairs.invariant (omega (arith, c.pairs-test.true)) (sym c.hex_byte.ensures ∙ c.in-Some.is) c.split_at.ensures.back c.in_ok-push.ensures.items
