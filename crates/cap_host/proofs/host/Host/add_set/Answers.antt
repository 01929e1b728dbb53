use Rattle.std.proofs.Common.{◌+◌, ◌∷◌, [], length, List, subst}
use Rattle.cap_entries.specs.declared.host.HostEntry.{HostEntry}
use Rattle.cap_entries.specs.declared.host.HostEntry.TheVariants.{Published}
use Rattle.cap_entries.specs.Log.{published}
use Rattle.cap_host.specs.Host.{entries_of, fault_of, Adds}
use Rattle.cap_host.proofs.Composed.{reads_adds}
use Rattle.cap_host.proofs.host.Host.add_set.Goals as goal

pub returns-clause-adds : goal.returns-clause-adds
returns-clause-adds g c =
    let mid = c.reserve_set.new.self in
    let new = c.append_set.new.self in
    let fault = fault_of c.append_set.result in
    reads_adds c.args.self.now mid new (Published (length (published (entries_of c.args.self.now)) + 1) c.args.rows ∷ []) fault c.in_ok-reserve_set.ensures.reads
    (subst (λ (es : List HostEntry). Adds mid new (Published (length (published es) + 1) c.args.rows ∷ []) fault) c.in_ok-reserve_set.ensures.entries c.append_set.ensures.adds)
