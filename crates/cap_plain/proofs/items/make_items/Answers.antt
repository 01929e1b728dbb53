use Rattle.std.proofs.Common.{◌≡◌, ◌+◌, ◌∷◌, ◌++◌, [], ap, sym, ◌∙◌, arith, take, get_or, Vec, Global}
use Rattle.std.proofs.lemmas.List.{append-nil}
use Rattle.cap_base.specs.declared.item.Item.{Item}
use Rattle.cap_base.specs.Fits.{all_fit}
use Rattle.cap_entries.specs.Items.{items_after, items}
use Rattle.cap_entries.specs.Allowed.{allowed}
use Rattle.cap_entries.specs.AllowedLaws.{all_allowed-take, allowed-at}
use Rattle.cap_entries.specs.ItemsLaws.{items-take}
use Rattle.cap_plain.specs.LegalLaws.{items_fit, completed_begun}
use Rattle.cap_plain.proofs.items.make_items.Goals as goal
use Rattle.cap_plain.proofs.items.make_items.Goals.{in-Some+in_ok-push, in_default}

pub next_item-requires-clause-allowed : goal.next_item-requires-clause-allowed
next_item-requires-clause-allowed c =
    ap (allowed (take c.loop-i.i c.args.entries.now)) c.index-entries-i.is ∙ allowed-at c.args.entries.now c.loop-i.i c.index-entries-i.result (omega arith) c.requires

pub next_item-requires-clause-begun : goal.next_item-requires-clause-begun
next_item-requires-clause-begun c = completed_begun (take c.loop-i.i c.args.entries.now) (all_allowed-take c.args.entries.now c.loop-i.i c.requires)

pub next_item-requires-clause-fit : goal.next_item-requires-clause-fit
next_item-requires-clause-fit c =
    ap (all_fit []) (c.deref.ensures.value ∙ c.loop-i.invariant) ∙ items_fit (take c.loop-i.i c.args.entries.now) (all_allowed-take c.args.entries.now c.loop-i.i c.requires)

pub loop-i-preserved : goal.loop-i-preserved
loop-i-preserved c =
    let before = take c.loop-i.i c.args.entries.now in
    let entry = get_or c.args.entries.now c.loop-i.i c.index-entries-i.result in
    let made : c.deref.result.now ≡ c.loop-i.made.items = c.deref.ensures.value in
    let more : items_after before c.deref.result.now c.index-entries-i.result ≡ items (take (c.loop-i.i + 1) c.args.entries.now)
    = ap (λ l. items_after before l c.index-entries-i.result) (made ∙ c.loop-i.invariant) ∙ (ap (items_after before (items before)) c.index-entries-i.is
    ∙ sym (items-take c.args.entries.now c.loop-i.i c.index-entries-i.result (omega arith))) in
    elim c.match-next_item.branch [
      | in-Some+in_ok-push w ↦
          ap (λ (v : Vec Item Global). v.items) w.made-is ∙ (w.in_ok-push.ensures.items ∙ (ap (λ l. l ++ w.in-Some.item ∷ []) (sym made) ∙ (w.in-Some.ensures ∙ more)))
      | in_default w ↦
          ap (λ (v : Vec Item Global). v.items) w.made-is ∙ (sym made ∙ (sym (append-nil c.deref.result.now) ∙ (w.in_default.ensures ∙ more)))
    ]
