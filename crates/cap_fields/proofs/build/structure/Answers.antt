use Rattle.cap_fields.proofs.Views.{data_branch}
use Rattle.cap_fields.proofs.build.structure.Goals as goal

pub returns : goal.returns
returns c = data_branch c.args.children
