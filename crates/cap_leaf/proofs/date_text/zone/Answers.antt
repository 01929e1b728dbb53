use Rattle.cap_leaf.proofs.Moments.{other_zone}
use Rattle.cap_leaf.proofs.date_text.zone.Goals as goal

pub offset-requires : goal.offset-requires
offset-requires c = other_zone c.args.text.now c.requires (cc) (cc)
