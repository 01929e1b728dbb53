use Rattle.std.proofs.Common.{◌∙◌, sym, ap}
use Rattle.std.specs.Str.{bytes_eq}
use Rattle.cap_text.proofs.Common.{tag_is}
use Rattle.cap_text.proofs.Seeking.{picks_found, picks_on, bounded_at}
use Rattle.cap_text.proofs.rows.pick_row.Goals as goal

pub returns-then-eq-clause-row : goal.returns-then-eq-clause-row
returns-then-eq-clause-row c =
    c.loop-i.invariant ∙ picks_found c.args.nodes.now c.loop-i.i _ c.args.tag.now c.loop-i-test.true (ap (λ l. bytes_eq l c.args.tag.now) (sym c.as_bytes.ensures.value) ∙ sym c.if-eq.ensures)

pub returns-then-eq-clause-bounded : goal.returns-then-eq-clause-bounded
returns-then-eq-clause-bounded c = bounded_at c.args.nodes.now c.loop-i.i _ c.loop-i-test.true c.requires.bounded

pub loop-i-preserved : goal.loop-i-preserved
loop-i-preserved c =
    c.loop-i.invariant ∙ picks_on c.args.nodes.now c.loop-i.i _ c.args.tag.now c.loop-i-test.true (ap (λ l. bytes_eq l c.args.tag.now) (sym c.as_bytes.ensures.value) ∙ sym c.if-eq.ensures)

pub returns-then-eq-clause-tag : goal.returns-then-eq-clause-tag
returns-then-eq-clause-tag c = tag_is _ _ (ap (λ l. bytes_eq l c.args.tag.now) (sym c.as_bytes.ensures.value) ∙ sym c.if-eq.ensures)
