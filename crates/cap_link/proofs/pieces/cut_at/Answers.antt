use Rattle.std.proofs.Common.{ap, sym, ◌∙◌, take, set, List, ℕ}
use Rattle.cap_link.specs.Pieces.{lists_of}
use Rattle.cap_link.proofs.Talking.{lists-set, piece_there, items_of}
use Rattle.cap_link.proofs.pieces.cut_at.Goals as goal

pub returns : goal.returns
returns c =
    lists-set c.args.lists.now.items c.args.i c.truncate.new.self
    ∙ ap (λ (bytes : List ℕ). set (lists_of c.args.lists.now.items) c.args.i bytes)
    (c.truncate.ensures.items ∙ ap (take c.args.at) (ap items_of c.index_mut.ensures.value ∙ sym (piece_there c.args.lists.now.items c.args.i _ c.requires)))
