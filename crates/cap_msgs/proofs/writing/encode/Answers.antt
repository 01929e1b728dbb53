use Rattle.cap_leaf.specs.Trees.{data_of}
use Rattle.cap_msgs.proofs.Exact.{written}
use Rattle.cap_msgs.proofs.Whole.{encode_fits}
use Rattle.cap_msgs.proofs.writing.encode.Goals as goal

pub write_document-requires : goal.write_document-requires
write_document-requires c =
    encode_fits c.kind-kind.result (data_of c.in_ok-tree.tree) c.args.message.now c.kind-kind.ensures c.in_ok-tree.ensures.tree c.requires c.in_ok-tree.ensures.few

pub returns-clause-few : goal.returns-clause-few
returns-clause-few c =
    (written c.kind-kind.result (data_of c.in_ok-tree.tree) c.args.message.now c.in_ok-text.text.items c.in_ok-text.ensures.text c.kind-kind.ensures
    c.in_ok-tree.ensures.tree c.in_ok-text.ensures.spells).few
