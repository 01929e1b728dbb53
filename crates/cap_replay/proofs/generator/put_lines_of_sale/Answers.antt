use Rattle.cap_replay.proofs.Adding.{adds_then, sale_is}
use Rattle.cap_replay.proofs.generator.put_lines_of_sale.Goals as goal

pub returns : goal.returns
returns c =
    sale_is _ _ c.args.i c.args.place c.args.number c.args.answer c.amount_of.result c.account_of.result c.is_repeated.result c.amount_of.ensures c.account_of.ensures c.is_repeated.ensures
    (adds_then _ _ _ _ _ c.in_ok-put_order.ensures (adds_then _ _ _ _ _ c.in_ok-put_cancellation.ensures c.in_ok-exchange.ensures))
