use Rattle.std.proofs.Common.{◌≡◌, ◌++◌, map, drop}
use Rattle.cap_entries.specs.declared.host.HostEntry.TheVariants.{Took}
use Rattle.cap_host_answers.proofs.advice.took_all.Given as goal

abbrev pub invariant-loop-item : goal.invariant-loop-item
invariant-loop-item l = l.made.items ++ map (Took l.place) (drop l.item-index l.items) ≡ map (Took l.place) l.items
