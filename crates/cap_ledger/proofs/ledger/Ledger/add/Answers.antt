use Rattle.std.proofs.Common.{refl, ◌∷◌, []}
use Rattle.cap_ledger.proofs.Grown.{added_ok, added_err}
use Rattle.cap_ledger.proofs.ledger.Ledger.add.Goals as goal

pub returns-in-Ok-clause-adds : goal.returns-in-Ok-clause-adds
returns-in-Ok-clause-adds g c =
    let e = c.in-Ok.ensures in
    added_ok c.args.self.now _ (c.args.entry ∷ []) (λ is. cc) c.requires.works (c.args.self.now.works c.requires.works) e.is_readable e.tells e.any_moment refl e.ok e.len e.cause e.counts

pub returns-in-Err-clause-adds : goal.returns-in-Err-clause-adds
returns-in-Err-clause-adds g c =
    let e = c.in-Err.ensures in
    added_err c.args.self.now _ (c.args.entry ∷ []) (λ is. cc) c.requires.works (c.args.self.now.works c.requires.works) e.is_readable e.tells e.any_moment c.in-Err.field-0 refl e.err e.err_len e.cause e.counts
