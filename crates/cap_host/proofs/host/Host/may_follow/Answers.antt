use Rattle.std.proofs.Common.{◌∙◌, ◌++◌, sym, ap}
use Rattle.cap_base.specs.declared.item.Item.{Item}
use Rattle.cap_base.specs.Fits.{fits}
use Rattle.cap_entries.specs.Log.{log}
use Rattle.cap_host.specs.Host.{entries_of}
use Rattle.cap_host.proofs.host.Host.may_follow.Goals as goal

pub returns-in-Close-clause-value : goal.returns-in-Close-clause-value
returns-in-Close-clause-value g c =
    c.may_close.ensures c.in-Close.totals
    ∙ ap (λ (item : Item). fits (log (entries_of c.args.self.now) c.args.terminal ++ c.args.taken.now) item) (sym c.in-Close.is)
