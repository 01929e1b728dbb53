use Rattle.std.proofs.Common.{◌≡◌, ℕ, ◌-◌, ◌++◌, List, length, map, take, drop}
use Rattle.cap_entries.specs.declared.host.HostEntry.{HostEntry}
use Rattle.cap_entries.specs.declared.host.HostEntry.TheVariants.{Took}
use Rattle.cap_host_index.specs.Noted.{IsNoted, HasRoom}
use Rattle.cap_host_index.proofs.index.LogIndex.take_all.Given as goal

abbrev pub invariant-loop-i : goal.invariant-loop-i
invariant-loop-i l = record {
  taken : (entries : List HostEntry) (terminal : ℕ) → l.first ≡ length entries → IsNoted entries terminal l.items l.fn.self → IsNoted (entries ++ map (Took terminal) (take l.i l.items)) terminal (drop l.i l.items) l.self;
  room : HasRoom (length l.items - l.i) l.self;
}
