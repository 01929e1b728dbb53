use Rattle.std.proofs.Common.{◌≡◌, ◌∷◌, [], List, length, refl, sym, ap, subst, ◌∙◌, arith, rules}
use Rattle.std.specs.Vec.Iter.{into_iter_items}
use Rattle.cap_power.specs.contracts.terminal.TerminalDiskJournalTermEntryMemoryDiskOverDiskTermEntry.TheImpl.{ghosts as term}
use Rattle.cap_terminal_side.specs.declared.side.Side.{Side}
use Rattle.cap_network.specs.Opened.{AreDisksOf}
use Rattle.cap_network.proofs.Starting.{left_none, left_more, left_last}
use Rattle.cap_network.proofs.opening.disks_of.Goals as goal

nothing_left : {X : Type 0} (l : List X) → length l ≡ 0 → l ≡ []
nothing_left [] h = refl
nothing_left (x ∷ xs) h = absurd (omega arith)

pub loop-side-init : goal.loop-side-init
loop-side-init c =
    let gives = c.into_iter-side-iterator.ensures.into_iter_gives in
    let all : into_iter_items c.into_iter-side-iterator.result ≡ c.args.sides.items = gives.0 in
    record {
      many = search rules;
      so_far = λ more are. left_none term.entries term.disk term.has_failed (λ (side : Side). side.power) c.args.sides.items c.new-disks.result.items more c.new-disks.ensures.items
          (subst (λ (l : List Side). AreDisksOf term.entries term.disk term.has_failed (λ (side : Side). side.power) l more) all are);
    }

pub loop-side-preserved : goal.loop-side-preserved
loop-side-preserved c =
    let at = c.loop-side in
    let steps : into_iter_items at.side-iterator ≡ c.in-Some.side ∷ into_iter_items c.next.new.self = c.in-Some.ensures.steps.0 in
    let gone = c.in-Some.ensures.steps.1 in
    let short = ap (λ (l : List Side). length l) steps in
    record {
      many = omega (arith, at.invariant.many, gone, short);
      so_far = left_more term.entries term.disk term.has_failed (λ (side : Side). side.power) c.args.sides.items (into_iter_items at.side-iterator) (into_iter_items c.next.new.self) at.disks.items c.push.new.self.items c.in-Some.side c.in_ok-disk.field-0
          steps c.in_ok-disk.ensures.has c.in_ok-push.ensures.items at.invariant.so_far;
    }

pub returns : goal.returns
returns c =
    let at = c.loop-side in
    let none = c.in-None.ensures.steps in
    let empty : into_iter_items at.side-iterator ≡ [] = nothing_left _ (sym at.invariant.many ∙ none.0) in
    left_last term.entries term.disk term.has_failed (λ (side : Side). side.power) c.args.sides.items (into_iter_items at.side-iterator) at.disks.items empty at.invariant.so_far
