use Rattle.std.proofs.Common.{◌∙◌, ap}
use Rattle.cap_text.specs.Machine.{close}
use Rattle.cap_text.specs.SeenDocs.{open_of, state_by}
use Rattle.cap_text.proofs.Seeing.{data_leaf}
use Rattle.cap_text.proofs.ending.fill.Goals as goal

pub returns-clause-filled : goal.returns-clause-filled
returns-clause-filled c =
    ap (λ l. state_by l (open_of c.keep.new.self)) c.keep.ensures.leaf
    ∙ (c.in_ok-keep.ensures.kept ∙ ap (close (open_of c.args.stack.now)) (data_leaf c.args.read))
