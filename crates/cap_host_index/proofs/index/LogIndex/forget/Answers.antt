use Rattle.std.proofs.Common.{◌∙◌, ap}
use Rattle.cap_entries.specs.Log.{log}
use Rattle.cap_host_index.proofs.index.LogIndex.forget.Goals as goal
use Rattle.cap_host_index.proofs.Growth.{forgotten, some_from_all}

pub returns : goal.returns
returns c = λ entries terminal noted.
    let e = c.forget_all.ensures in
    record {
      places = ap (λ v. v.items) e.places ∙ noted.places;
      tallies = forgotten (log entries terminal) c.args.items.now c.args.self.now _ (some_from_all (log entries terminal) c.args.items.now c.args.self.now noted.tallies) e.ended e.captured (ap (λ v. v.items) e.kept) e.running (ap (λ v. v.items) e.closed);
    }
