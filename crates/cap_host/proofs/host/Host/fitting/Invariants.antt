use Rattle.std.proofs.Common.{◌≡◌, ◌+◌, ◌≤◌, ◌++◌, true, drop, length, None}
use Rattle.cap_base.specs.Fits.{all_fit}
use Rattle.cap_entries.specs.Log.{log}
use Rattle.cap_host_answers.specs.Answer.{fitting}
use Rattle.cap_host.specs.Host.{entries_of, fetched_of, Reads}
use Rattle.cap_host.proofs.host.Host.fitting.Given as goal

abbrev pub invariant-loop-item : goal.invariant-loop-item
invariant-loop-item g l =
    let own = log (entries_of l.fn.self) l.terminal in
    record {
      rest : l.taken.items ++ fitting (own ++ l.taken.items) (drop l.item-index l.items) ≡ fitting own l.items;
      fit : all_fit own l.taken.items ≡ true;
      few : length l.taken.items ≤ l.item-index;
      reads : Reads l.fn.self l.self None;
      entries : entries_of l.self ≡ entries_of l.fn.self;
      fetched : fetched_of l.self ≤ fetched_of l.fn.self + l.item-index;
    }
