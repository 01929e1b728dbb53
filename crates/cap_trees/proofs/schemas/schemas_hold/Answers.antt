use Rattle.cap_trees.proofs.Tables.{tables_differ, tables_sound, tables_bounded}
use Rattle.cap_trees.proofs.schemas.schemas_hold.Goals as goal

pub returns-clause-differ : goal.returns-clause-differ
returns-clause-differ c = tables_differ

pub returns-clause-sound : goal.returns-clause-sound
returns-clause-sound c = tables_sound

pub returns-clause-bounded : goal.returns-clause-bounded
returns-clause-bounded c = tables_bounded
