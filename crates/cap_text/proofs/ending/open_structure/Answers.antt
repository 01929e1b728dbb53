use Rattle.cap_leaf.specs.View.{content_view}
use Rattle.cap_text.proofs.Closing.{table_bounded}
use Rattle.cap_text.proofs.ending.open_structure.Goals as goal

pub fresh-inner-requires-clause-few : goal.fresh-inner-requires-clause-few
fresh-inner-requires-clause-few c = (table_bounded c.table.result.now (content_view c.args.node.now.shape) c.table.ensures c.requires).0
