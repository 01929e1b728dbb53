use Rattle.std.proofs.Common.{ℕ, ◌++◌, ◌∷◌, [], ◌∙◌, ap, arith}
use Rattle.std.specs.Ordering.{nat_cmp}
use Rattle.std.specs.BTreeSet.{BTreeSet, contains}
use Rattle.std.specs.BTreeMap.{BTreeMap, get}
use Rattle.cap_base.specs.declared.item.Totals.{Totals}
use Rattle.cap_host_index.proofs.index.LogIndex.take.Goals as goal
use Rattle.cap_host_index.specs.Noted.{running_after, closed_after}
use Rattle.cap_host_index.proofs.Growth.{taken_one}

pub returns-clause-taken : goal.returns-clause-taken
returns-clause-taken c = λ entries terminal rest at noted.
    let p = c.place_item.ensures in
    let n = c.count_item.ensures in
    let x = c.args.self.now in
    taken_one entries terminal c.args.item.now rest c.args.number x _ at noted
    (λ k. ap (λ (s : BTreeSet ℕ). contains nat_cmp s k) (n.ended ∙ p.ended))
    (λ k. ap (λ (m : BTreeMap ℕ ℕ). get nat_cmp m k) n.captured ∙ p.captured k)
    (c.push_reserved.ensures.items ∙ ap (λ v. v.items ++ c.args.number ∷ []) (n.places ∙ p.places))
    (ap (λ v. v.items) n.kept ∙ p.kept)
    (λ few few'. n.running (omega (arith, few, ap (λ (t : Totals). t.sales) p.running)) (omega (arith, few', ap (λ (t : Totals). t.cancels) p.running)) ∙ ap (λ (t : Totals). running_after t c.args.item.now) p.running)
    (n.closed ∙ (ap (λ v. closed_after v.items c.place_item.new.self.running c.args.item.now) p.closed ∙ ap (λ (t : Totals). closed_after x.closed.items t c.args.item.now) p.running))
