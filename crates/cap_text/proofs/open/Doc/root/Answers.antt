use Rattle.cap_leaf.specs.Schema.{all}
use Rattle.cap_trees.specs.Tables.{table_of}
use Rattle.cap_trees.proofs.Tables.{tables_bounded}
use Rattle.cap_text.proofs.Closing.{table_bounded}
use Rattle.cap_text.proofs.open.Doc.root.Goals as goal

pub fresh-current-requires-clause-few : goal.fresh-current-requires-clause-few
fresh-current-requires-clause-few c = (table_bounded c.schema_of.result.now (all (table_of c.args.kind)) c.schema_of.ensures (tables_bounded c.args.kind)).0

pub fresh-current-requires-clause-bounded : goal.fresh-current-requires-clause-bounded
fresh-current-requires-clause-bounded c = (table_bounded c.schema_of.result.now (all (table_of c.args.kind)) c.schema_of.ensures (tables_bounded c.args.kind)).1
