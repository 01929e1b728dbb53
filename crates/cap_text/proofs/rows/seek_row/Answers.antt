use Rattle.std.proofs.Common.{◌∙◌, sym, ap}
use Rattle.std.specs.Str.{bytes_eq}
use Rattle.cap_text.proofs.Common.{tag_is}
use Rattle.cap_text.proofs.Seeking.{seeks_found, seeks_full, seeks_short, seeks_on, bounded_at}
use Rattle.cap_text.proofs.rows.seek_row.Goals as goal

pub returns-then-stood-node-clause-row : goal.returns-then-stood-node-clause-row
returns-then-stood-node-clause-row c =
    c.loop-i.invariant ∙ seeks_found c.args.nodes.now c.loop-i.i _ c.loop-i.stood c.args.tag.now c.loop-i-test.true (ap (λ l. bytes_eq l c.args.tag.now) (sym c.as_bytes.ensures.value) ∙ sym c.if-eq.ensures) c.if-stood-node.true

pub returns-then-stood-node-clause-bounded : goal.returns-then-stood-node-clause-bounded
returns-then-stood-node-clause-bounded c = bounded_at c.args.nodes.now c.loop-i.i _ c.loop-i-test.true c.requires.bounded

pub returns-else-stood-node-clause-row : goal.returns-else-stood-node-clause-row
returns-else-stood-node-clause-row c =
    c.loop-i.invariant ∙ seeks_full c.args.nodes.now c.loop-i.i _ c.loop-i.stood c.args.tag.now c.loop-i-test.true (ap (λ l. bytes_eq l c.args.tag.now) (sym c.as_bytes.ensures.value) ∙ sym c.if-eq.ensures) c.if-stood-node.false

pub returns-then-stood-node-2-clause-row : goal.returns-then-stood-node-2-clause-row
returns-then-stood-node-2-clause-row c =
    c.loop-i.invariant ∙ seeks_short c.args.nodes.now c.loop-i.i _ c.loop-i.stood c.args.tag.now c.loop-i-test.true (ap (λ l. bytes_eq l c.args.tag.now) (sym c.as_bytes.ensures.value) ∙ sym c.if-eq.ensures) c.if-stood-node-2.true

pub loop-i-preserved : goal.loop-i-preserved
loop-i-preserved c =
    c.loop-i.invariant ∙ seeks_on c.args.nodes.now c.loop-i.i _ c.loop-i.stood c.args.tag.now c.loop-i-test.true (ap (λ l. bytes_eq l c.args.tag.now) (sym c.as_bytes.ensures.value) ∙ sym c.if-eq.ensures) c.if-stood-node-2.false

pub returns-then-stood-node-clause-tag : goal.returns-then-stood-node-clause-tag
returns-then-stood-node-clause-tag c = tag_is _ _ (ap (λ l. bytes_eq l c.args.tag.now) (sym c.as_bytes.ensures.value) ∙ sym c.if-eq.ensures)
