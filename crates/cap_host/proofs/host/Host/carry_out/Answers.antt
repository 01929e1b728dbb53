use Rattle.std.proofs.Common.{◌≡◌, ◌∙◌, sym, ap, subst, map, List}
use Rattle.cap_base.specs.declared.item.Item.{Item}
use Rattle.cap_entries.specs.declared.host.HostEntry.{HostEntry}
use Rattle.cap_entries.specs.declared.host.HostEntry.TheVariants.{Took}
use Rattle.cap_host.specs.declared.decision.Decision.{Decision}
use Rattle.cap_host.specs.Decision.{decided}
use Rattle.cap_host.specs.Host.{fault_of, Adds}
use Rattle.cap_host.proofs.host.Host.carry_out.Goals as goal

pub returns-in-Takes-clause-adds : goal.returns-in-Takes-clause-adds
returns-in-Takes-clause-adds g c =
    let same : map (Took c.in-Takes.terminal) c.deref.result.now ≡ (decided c.args.decision).added =
    ap (λ (l : List Item). map (Took c.in-Takes.terminal) l) c.deref.ensures.value ∙ ap (λ (d : Decision). (decided d).added) (sym c.in-Takes.is) in
    subst (λ (l : List HostEntry). Adds c.args.self.now c.take.new.self l (fault_of c.take.result)) same c.take.ensures.adds
