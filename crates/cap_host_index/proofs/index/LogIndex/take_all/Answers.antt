use Rattle.std.proofs.Common.{◌≡◌, ℕ, ◌+◌, ◌++◌, ◌∷◌, List, length, sym, ◌∙◌, ap, subst, arith}
use Rattle.cap_base.specs.declared.item.Item.{Item}
use Rattle.cap_host_index.specs.Noted.{IsNoted}
use Rattle.cap_host_index.proofs.index.LogIndex.take_all.Goals as goal
use Rattle.std.proofs.Common.{◌-◌, map, take, drop, length-append}
use Rattle.std.proofs.lemmas.List.{length-map, length-take, drop_more}
use Rattle.cap_entries.specs.declared.host.HostEntry.TheVariants.{Took}
use Rattle.cap_host_index.specs.Noted.{HasRoom}
use Rattle.cap_host_index.proofs.Growth.{taken_step}

pub loop-i-preserved : goal.loop-i-preserved
loop-i-preserved c =
    let i = c.loop-i.invariant in
    let item = c.index-items-i.result in
    let items = c.args.items.now in
    let k = c.loop-i.i in
    record {
      taken = λ entries terminal at noted.
          taken_step entries terminal items k item _ (omega arith) c.index-items-i.is
          (c.take.ensures.taken (entries ++ map (Took terminal) (take k items)) terminal (drop (k + 1) items)
          (omega (arith, at, length-append entries (map (Took terminal) (take k items)), length-map (take k items) (Took terminal), length-take k items))
          (subst (λ (l : List Item). IsNoted (entries ++ map (Took terminal) (take k items)) terminal l c.loop-i.self) (drop_more items k item (omega arith) ∙ ap (λ (d : Item). d ∷ drop (k + 1) items) (sym c.index-items-i.is)) (i.taken entries terminal at noted)));
      room = c.take.ensures.room (length items - (k + 1)) (let same : length items - k ≡ length items - (k + 1) + 1 = omega arith in subst (λ (n : ℕ). HasRoom n c.loop-i.self) same i.room);
    }
