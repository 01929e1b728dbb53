use Rattle.std.proofs.Common.{◌≡◌, ◌+◌, ◌≤◌, take, drop, true, None}
use Rattle.cap_entries.specs.Log.{log}
use Rattle.cap_host_answers.specs.Answer.{agree_so_far}
use Rattle.cap_host.specs.Host.{entries_of, fetched_of, Reads}
use Rattle.cap_host.proofs.host.Host.agrees.Given as goal

abbrev pub invariant-loop-i : goal.invariant-loop-i
invariant-loop-i g l =
    let own = log (entries_of l.fn.self) l.terminal in
    record {
      rest : agree_so_far (drop (l.from + l.i) own) (drop l.i l.items) ≡ agree_so_far (drop l.from own) l.items;
      reads : Reads l.fn.self l.self None;
      entries : entries_of l.self ≡ entries_of l.fn.self;
      fetched : fetched_of l.self ≤ fetched_of l.fn.self + l.i;
    }
