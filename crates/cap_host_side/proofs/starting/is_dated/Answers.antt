use Rattle.std.proofs.Common.{refl, take}
use Rattle.cap_leaf.specs.declared.kinds.LeafKind.TheVariants as kind
use Rattle.cap_host_side.proofs.Begun.{date_holds}
use Rattle.cap_host_side.proofs.starting.is_dated.Goals as goal

pub returns : goal.returns
returns c = date_holds (take c.leaf_write.result c.leaf_write.new.out) c.args.date.now (c.leaf_write.ensures.reads kind.DateTime refl tt)
